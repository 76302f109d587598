-- The sample's template as the packet of its layers.
use Rattle.std.proofs.Common.{◌≡◌, ℕ, ◌+◌, List, [], ◌∷◌, ◌++◌, length, Some, refl, sym, ap, ◌∙◌, arith, append-nil}
use Rattle.std.proofs.lemmas.List.{length-replicate}
use Rattle.trex_headers.specs.Layer.{Layer, Ethernet, Ipv4, Udp, Raw}
use Rattle.trex_sum.specs.Checksum.{ones_for_zero}
use Rattle.trex_headers.specs.Header.{addresses, header_of, ipv4_front, pseudo_ipv4, sealed, udp_front}
use Rattle.trex_headers.specs.Built.{built}
use Rattle.trex_sample.specs.Template.{ethernet, ipv4, udp, udp_sum, zeros, template, layers}

abbrev link : Layer
link = Ethernet (2 ∷ 0 ∷ 0 ∷ 0 ∷ 0 ∷ 2 ∷ []) (2 ∷ 0 ∷ 0 ∷ 0 ∷ 0 ∷ 1 ∷ []) 34997

abbrev network : Layer
network = Ipv4 0 0 0 64 253 268435457 805306369

abbrev segment : Layer
segment = Udp 1025 12

-- the IPv4 header
network-same : (payload : List ℕ) → header_of (Some link) network (Some segment) payload ≡ ipv4 (20 + length payload)
unfolding ipv4 sealed ipv4_front
network-same payload = refl

-- the UDP header
segment-same : (pad : ℕ) → header_of (Some network) segment (Some (Raw (zeros pad))) (zeros pad) ≡ udp pad
unfolding udp udp_sum sealed udp_front pseudo_ipv4
segment-same pad =
    ap (λ n. sealed ones_for_zero (pseudo_ipv4 (addresses 268435457 805306369) 17 (8 + n)) (udp_front 1025 12 (8 + n)) [] (zeros pad)) (length-replicate pad 0)

total : (pad : ℕ) → 20 + length (udp pad ++ zeros pad) ≡ 28 + pad
unfolding udp
total pad = let rest : length (zeros pad) ≡ pad = length-replicate pad 0 in omega arith

pub template-built : (pad : ℕ) → template pad ≡ built (layers pad)
unfolding template ipv4 udp
template-built pad =
    let header = header_of (Some network) segment (Some (Raw (zeros pad))) in
    let carried : header (zeros pad ++ []) ++ (zeros pad ++ []) ≡ udp pad ++ zeros pad =
    ap (λ p. header p ++ p) (append-nil (zeros pad)) ∙ ap (λ h. h ++ zeros pad) (segment-same pad) in
    sym (ap (λ p. ethernet ++ (header_of (Some link) network (Some segment) p ++ p)) carried
    ∙ ap (λ h. ethernet ++ (h ++ (udp pad ++ zeros pad))) (network-same (udp pad ++ zeros pad) ∙ ap ipv4 (total pad)))
