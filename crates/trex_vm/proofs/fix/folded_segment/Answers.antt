use Rattle.std.proofs.Common.{ℕ, ◌+◌, ◌≤◌, get_or, ap, ◌∙◌, arith}
use Rattle.std.specs.List.{slice_range}
use Rattle.trex_headers.specs.declared.layer.Version.{Version}
use Rattle.trex_headers.specs.declared.layer.Version.TheVariants.{V4, V6}
use Rattle.trex_headers.specs.Network.{network_of}
use Rattle.trex_sum.specs.Checksum.{fold_of, sum_of}
use Rattle.trex_vm.proofs.Fixed.{sum_of-behind_pseudo}
use Rattle.trex_vm.proofs.fix.folded_segment.Goals as goal

-- no IP header is longer than IPv6's
end_small : (version : Version) → (network_of version).end ≤ 40
end_small V4 = omega arith
end_small V6 = omega arith

pub returns : goal.returns
returns c =
    let ip = c.args.ip in
    let at = c.args.at in
    let bytes = c.args.packet.now in
    let net = network_of c.args.version in
    let places = c.network_places-net in
    let addresses =
    ap (λ (a : ℕ). sum_of (slice_range bytes (ip + a) (ip + places.result.end))) places.ensures.addresses
    ∙ ap (λ (e : ℕ). sum_of (slice_range bytes (ip + net.addresses) (ip + e))) places.ensures.end in
    let protocol = ap (λ (p : ℕ). get_or bytes (ip + p) 0) places.ensures.protocol in
    let parts = sum_of-behind_pseudo c.args.version ip c.args.len bytes (slice_range bytes at (at + c.args.len)) (omega arith) c.requires.short in
    c.fold_sum.ensures ∙ ap fold_of (omega (arith, c.sum_words-addresses.ensures.value, addresses, c.from-protocol.ensures, protocol, parts))
