use Rattle.std.proofs.Common.{◌≡◌, ◌+◌, ◌-◌, ap, ◌∙◌, arith}
use Rattle.trex_sum.specs.Checksum.{sum_of}
use Rattle.trex_headers.specs.Header.{pseudo_ipv4}
use Rattle.trex_sample.specs.Template.{addresses, udp_with}
use Rattle.trex_sample.proofs.Headers.{udp_sum-is}
use Rattle.trex_sample.proofs.template.udp_sum.Goals as goal

pub returns : goal.returns
unfolding pseudo_ipv4
returns c =
    let first = rw c.write_u16.ensures at c.sum_words.ensures.value in
    let second = rw c.write_u16-2.ensures at c.sum_words-2.ensures.value in
    let is : c.sum_words.result + c.sum_words-2.result ≡ sum_of (pseudo_ipv4 addresses 17 (8 + c.args.pad)) + sum_of (udp_with (8 + c.args.pad) 0) = omega (arith, first, second) in
    ap (λ n. 65535 - n) c.fold.ensures ∙ udp_sum-is c.args.pad (c.sum_words.result + c.sum_words-2.result) c.requires is
