-- The headers of the sample's template.
use Rattle.std.proofs.Common.{◌≡◌, ℕ, zero, suc, ◌+◌, ◌-◌, ◌≤◌, ◌<◌, List, ◌++◌, length, refl, sym, ◌∙◌, arith}
use Rattle.std.specs.Prelude.{slice_index}
use Rattle.std.proofs.lemmas.Bool.Decides.{nat_tests}
use Rattle.std.proofs.lemmas.List.{length-replicate}
use Rattle.trex_layers.specs.declared.sizes.TheConstants.{LONGEST_PACKET}
use Rattle.trex_sum.specs.Checksum.{sum_of, fold_of, ones_for_zero}
use Rattle.trex_headers.specs.Header.{pseudo_ipv4}
use Rattle.trex_sample.specs.Template.{addresses, udp_with, ipv4, udp_sum, udp, zeros, template}

-- the headers on which fixes rest: version 4 and five words, UDP, and a whole UDP header
pub record IsHeaded (bytes : List ℕ) : Type 0 where
  pub long : 42 ≤ length bytes
  pub short : length bytes ≤ LONGEST_PACKET
  pub version : slice_index bytes 14 ≡ 69
  pub protocol : slice_index bytes 23 ≡ 17

pub template-headed : (pad : ℕ) → pad ≤ 1018 → IsHeaded (template pad)
unfolding template ipv4 udp
template-headed pad small =
    let rest : length (zeros pad) ≡ pad = length-replicate pad 0 in
    let long : length (template pad) ≡ 42 + pad = omega arith in
    record { long = omega arith; short = omega arith; version = refl; protocol = refl }

-- zeros add nothing
pub sum-zeros : (n : ℕ) → sum_of (zeros n) ≡ 0
sum-zeros zero = refl
sum-zeros (suc zero) = refl
sum-zeros (suc (suc n)) = let rest = sum-zeros n in omega arith

-- the sum of a segment's words, of which the zeros add nothing
segment-sum : (pad : ℕ) → sum_of (pseudo_ipv4 addresses 17 (8 + pad) ++ udp_with (8 + pad) 0 ++ zeros pad) ≡ sum_of (pseudo_ipv4 addresses 17 (8 + pad)) + sum_of (udp_with (8 + pad) 0)
unfolding pseudo_ipv4
segment-sum pad = let none = sum-zeros pad in omega arith

-- a sum that is no more than its fold doesn't come out as zero
some-checksum : (s : ℕ) → 0 < s → s < 65535 → ones_for_zero (65535 - fold_of s) ≡ 65535 - fold_of s
unfolding fold_of
some-checksum s some small = grind (arith, nat_tests)

pub udp_sum-is : (pad s : ℕ) → pad ≤ 1018 → s ≡ sum_of (pseudo_ipv4 addresses 17 (8 + pad)) + sum_of (udp_with (8 + pad) 0) → 65535 - fold_of s ≡ udp_sum pad
unfolding udp_sum pseudo_ipv4
udp_sum-is pad s small is =
    let whole : sum_of (pseudo_ipv4 addresses 17 (8 + pad) ++ udp_with (8 + pad) 0 ++ zeros pad) ≡ s = segment-sum pad ∙ sym is in
    rw whole (sym (some-checksum s (omega arith) (omega arith)))
