-- Sums of words of 32 bits, which fold as those of 16 bits do.
use Rattle.std.proofs.Common.{◌≡◌, ℕ, zero, suc, ◌+◌, ◌*◌, ◌/◌, ◌%◌, ◌<◌, ◌≤◌, List, length, refl, ap, ◌∙◌, arith}
use Rattle.trex_sum.specs.Checksum.{sum_of, fold_of}
use Rattle.trex_sum.specs.Wide.{FoldsAs}
use Rattle.trex_sum.proofs.ChecksumLemmas.{fold_of-pos}

-- what a loop over some bytes keeps: the number so far and the sum of the rest fold as the whole sum, and no byte so far added more than 2 ^ 32
pub record WideSoFar (total : ℕ) (rest bytes : List ℕ) : Type 0 where
  pub folds : FoldsAs (sum_of bytes) (total + sum_of rest)
  pub bound : total + 4294967296 * length rest ≤ 4294967296 * length bytes

-- a sum folds as itself
pub folds_itself : (sum : ℕ) → FoldsAs sum sum
folds_itself sum = record { extra = 0; is = omega arith; zero = λ none. refl }

-- a part of what folds as a sum gives way to what folds as that part
pub folds_part : (sum part rest number : ℕ) → FoldsAs sum (part + rest) → FoldsAs part number → FoldsAs sum (number + rest)
folds_part sum part rest number whole one = record {
  extra = whole.extra + one.extra;
  is = let a = whole.is in let b = one.is in omega arith;
  zero = λ none.
      let a = whole.is in
      let no_extra = whole.zero none in
      let no_more = one.zero (omega arith) in
      omega arith;
}

-- the two words of 32 bits of one number, added
pub two_wide : (n a b c d : ℕ) → a < 65536 → b < 65536 → c < 65536 → d < 65536
    → n ≡ 281474976710656 * a + 4294967296 * b + 65536 * c + d
    → FoldsAs (a + (b + (c + d))) (n / 4294967296 + n % 4294967296)
two_wide n a b c d a< b< c< d< is = record { extra = a + c; is = omega arith; zero = λ none. omega arith }

-- both have one fold
pub folds_one : (sum number : ℕ) → FoldsAs sum number → fold_of number ≡ fold_of sum
folds_one zero number one = ap fold_of (let is = one.is in let none = one.zero refl in omega arith)
folds_one (suc sum) number one =
    let is = one.is in
    let next : number ≡ suc (sum + 65535 * one.extra) = omega arith in
    let low = fold_of-pos sum in
    ap fold_of next ∙ fold_of-pos (sum + 65535 * one.extra) ∙ omega arith
