-- How great a decimal is that was read.
use Rattle.std.proofs.Common.{◌≡◌, ℕ, ◌<◌, ◌^◌, Bool, true, false, nat_lt, List, Option, Some, None, Ok, if◌then◌else◌, refl, arith}
use Rattle.std.proofs.lemmas.Bool.Decides.{nat_tests}
use Rattle.std.specs.Option.{ok_or}
use Rattle.trex_decimal.specs.Decimal.{scaled_of, answer_of, floor_of}
use Rattle.trex_decimal.specs.Grammar.{stop_of}
use Rattle.trex_decimal.specs.declared.decimal.DecimalFault.TheVariants.{TooLarge}

-- an answer is below 10 ^ 30
answer_of-below : (stop : Option ℕ) (value n : ℕ) → answer_of stop value ≡ Ok n → n < 10 ^ 30
answer_of-below (Some at) value n is = absurd (cc)
answer_of-below None value n is = by_test (nat_lt value (10 ^ 30)) (below value (10 ^ 30)) is
  where
    below : (a b : ℕ) → nat_lt a b ≡ true → a < b
    below a b test = grind (arith, nat_tests)

    by_test : (test : Bool) → (test ≡ true → value < 10 ^ 30) → ok_or (if test then Some value else None) TooLarge ≡ Ok n → n < 10 ^ 30
    by_test true less same = let equal : value ≡ n = cc in let small = less refl in omega arith
    by_test false less same = absurd (cc)

-- a decimal that was read is below 10 ^ 30
pub scaled_of-below : (text : List ℕ) (digits n : ℕ) → scaled_of text digits ≡ Ok n → n < 10 ^ 30
unfolding scaled_of
scaled_of-below text digits n is = answer_of-below (stop_of text) (floor_of text digits) n is
