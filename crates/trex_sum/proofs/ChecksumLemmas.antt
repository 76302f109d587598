-- Why a checksum among the words that it covers verifies.
use Rattle.std.proofs.Common.{◌≡◌, ℕ, zero, suc, ◌+◌, ◌-◌, ◌*◌, ◌%◌, ◌<◌, ◌≤◌, List, ◌∷◌, ◌++◌, length, refl, ap, ◌∙◌, arith}
use Rattle.std.proofs.lemmas.Bool.Decides.{nat_tests}
use Rattle.trex_sum.specs.Checksum.{sum_of, fold_of, ones_for_zero}
use Rattle.trex_sum.proofs.SumLemmas.{sum_of-append}

-- what is written into the field makes every sum fold to all ones
pub record Completes (written : ℕ → ℕ) : Type 0 where
  pub folds : (s : ℕ) → fold_of (s + written (65535 - fold_of s)) ≡ 65535
  pub small : (s : ℕ) → written (65535 - fold_of s) < 65536

fold_of-zero : fold_of 0 ≡ 0
unfolding fold_of
fold_of-zero = refl

pub fold_of-pos : (s : ℕ) → fold_of (suc s) ≡ 1 + s % 65535
unfolding fold_of
fold_of-pos s = grind (arith, nat_tests)

-- a sum with the complement of its fold added folds to all ones
pub folds_up : (s n : ℕ) → n ≡ 65535 - fold_of s → fold_of (s + n) ≡ 65535
folds_up zero n is =
    let all : zero + n ≡ suc 65534 = omega (arith, fold_of-zero) in
    ap fold_of all ∙ fold_of-pos 65534
folds_up (suc s) n is =
    let known = fold_of-pos s in
    let next : suc s + n ≡ suc (s + n) = omega arith in
    ap fold_of next ∙ fold_of-pos (s + n) ∙ omega arith

-- a sum that folds to all ones does so still with all ones added
folds_over : (s : ℕ) → fold_of s ≡ 65535 → fold_of (s + 65535) ≡ 65535
folds_over zero is = absurd (omega (arith, fold_of-zero))
folds_over (suc s) is =
    let known = fold_of-pos s in
    let next : suc s + 65535 ≡ suc (s + 65535) = omega arith in
    ap fold_of next ∙ fold_of-pos (s + 65535) ∙ omega arith

fold_of-bound : (s : ℕ) → fold_of s ≤ 65535
fold_of-bound zero = omega (arith, fold_of-zero)
fold_of-bound (suc s) = omega (arith, fold_of-pos s)

-- the complement as it is
pub Completes-plain : Completes (λ n. n)
Completes-plain = record { folds = λ s. folds_up s (65535 - fold_of s) refl; small = λ s. omega arith }

ones_for_zero-suc : (n : ℕ) → ones_for_zero (suc n) ≡ suc n
ones_for_zero-suc n = grind (arith, nat_tests)

-- the complement, or all ones where it is zero, makes its sum fold to all ones
pub ones_fold : (s n : ℕ) → n ≡ 65535 - fold_of s → fold_of (s + ones_for_zero n) ≡ 65535
ones_fold s zero is = folds_over s (omega (arith, fold_of-bound s))
ones_fold s (suc n) is = rw (ones_for_zero-suc n) (folds_up s (suc n) is)

ones_small : (n : ℕ) → n < 65536 → ones_for_zero n < 65536
ones_small zero below = omega arith
ones_small (suc n) below = rw (ones_for_zero-suc n) below

-- the complement, with all ones in place of zero
pub Completes-ones_for_zero : Completes ones_for_zero
Completes-ones_for_zero = record { folds = λ s. ones_fold s (65535 - fold_of s) refl; small = λ s. ones_small (65535 - fold_of s) (omega arith) }

-- the sum of a part, by the number in its field
pub sum_of-field : (front back : List ℕ) (x y : ℕ) → length front % 2 ≡ 0 → sum_of (front ++ (x ∷ y ∷ back)) ≡ sum_of front + sum_of back + (256 * x + y)
sum_of-field front back x y even = sum_of-append front (x ∷ y ∷ back) even ∙ omega arith
