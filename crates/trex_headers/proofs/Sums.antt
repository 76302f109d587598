-- The sums of what a checksum covers.
use Rattle.std.proofs.Common.{◌≡◌, ℕ, ◌+◌, ◌-◌, ◌%◌, ◌<◌, List, ◌∷◌, ◌++◌, length, ap, ◌∙◌, arith, length-append}
use Rattle.byteorder.specs.Endian.{big_bytes}
use Rattle.trex_sum.specs.Checksum.{sum_of, fold_of}
use Rattle.trex_sum.proofs.SumLemmas.{sum_of-append}
use Rattle.trex_headers.specs.declared.layer.Version.TheVariants.{V6}
use Rattle.trex_headers.specs.Header.{pseudo_ipv6, sealed}
use Rattle.trex_headers.proofs.PseudoLemmas.{length-pseudo, sum_of-pseudo}

-- the parts of what a checksum covers, with zeros in its place, add up
sum_of-covered : (pseudo front back payload : List ℕ) → length pseudo % 2 ≡ 0 → length front % 2 ≡ 0 → length back % 2 ≡ 0
    → sum_of (pseudo ++ (front ++ ((0 ∷ 0 ∷ back) ++ payload))) ≡ sum_of pseudo + (sum_of front + (sum_of back + sum_of payload))
sum_of-covered pseudo front back payload even even_front even_back =
    let first = sum_of-append pseudo (front ++ ((0 ∷ 0 ∷ back) ++ payload)) even in
    let second = sum_of-append front ((0 ∷ 0 ∷ back) ++ payload) even_front in
    let third = sum_of-append back payload even_back in
    omega arith

-- a header is sealed by the sum of what its checksum covers
pub sealed-by : (written : ℕ → ℕ) (pseudo front back payload : List ℕ) (sum : ℕ) → length pseudo % 2 ≡ 0 → length front % 2 ≡ 0 → length back % 2 ≡ 0
    → sum ≡ sum_of pseudo + (sum_of front + (sum_of back + sum_of payload))
    → front ++ (big_bytes 2 (written (65535 - fold_of sum)) ++ back) ≡ sealed written pseudo front back payload
unfolding sealed
sealed-by written pseudo front back payload sum even even_front even_back is =
    let covered = sum_of-covered pseudo front back payload even even_front even_back in
    let total : sum ≡ sum_of (pseudo ++ (front ++ ((0 ∷ 0 ∷ back) ++ payload))) = omega arith in
    ap (λ (s : ℕ). front ++ (big_bytes 2 (written (65535 - fold_of s)) ++ back)) total

-- the sum of the pseudo header over IPv6
pub sum_of_pseudo_ipv6 : (src dst : List ℕ) (protocol len : ℕ) → length src ≡ 16 → length dst ≡ 16 → len < 65536
    → sum_of (pseudo_ipv6 (src ++ dst) protocol len) ≡ sum_of src + sum_of dst + protocol + len
sum_of_pseudo_ipv6 src dst protocol len from to short =
    sum_of-pseudo V6 (src ++ dst) protocol len (omega (arith, length-append src dst)) short
    ∙ ap (λ (s : ℕ). s + protocol + len) (sum_of-append src dst (omega arith))

-- the pseudo header over IPv6 is whole words
pub words_of_pseudo_ipv6 : (src dst : List ℕ) (protocol len : ℕ) → length src ≡ 16 → length dst ≡ 16 → length (pseudo_ipv6 (src ++ dst) protocol len) % 2 ≡ 0
words_of_pseudo_ipv6 src dst protocol len from to = length-pseudo V6 (src ++ dst) protocol len (omega (arith, length-append src dst))
