-- What std's reading of a number gives for one or more digits.
use Rattle.std.proofs.Common.{◌≡◌, ℕ, ◌^◌, ◌<◌, ◌≤◌, Bool, true, false, ◌&&◌, nat_lt, nat_le, List, length, Result, Ok, Err, IsOk, inl, inr, refl, arith}
use Rattle.std.specs.Result.{OkIff}
use Rattle.std.specs.Str.{all_ascii_digits}
use Rattle.std.specs.Str.Parse.{digits_value, ParsesUnsigned}
use Rattle.std.proofs.lemmas.Bool.{cases_lt}
use Rattle.std.proofs.lemmas.Bool.Decides.{nat_tests}
use Rattle.std.proofs.lemmas.Str.Parse.{IsNumeralModel, numerals_by_value, tells_all_ascii_digits, parse_digits}
use Rattle.trex_words.specs.Asked.{is_number, is_within}

own : IsNumeralModel (λ ds. all_ascii_digits ds ≡ true) (digits_value 10)
own = numerals_by_value (λ ds. all_ascii_digits ds ≡ true) tells_all_ascii_digits

pub both : (a b : Bool) → (a && b) ≡ true → (a ≡ true) × (b ≡ true)
both true true e = (refl, refl)
both true false e = cc
both false b e = cc

pub lt_of : (m n : ℕ) → nat_lt m n ≡ true → m < n
lt_of m n e = grind (arith, nat_tests)

pub le_of : (m n : ℕ) → nat_le m n ≡ true → m ≤ n
le_of m n e = grind (arith, nat_tests)

read : {E : Type 0} (text : List ℕ) (r : Result ℕ E) → ParsesUnsigned 64 10 text r → is_number text ≡ true
    → (0 < length text) × OkIff r ((0 < length text) × (digits_value 10 text < 2 ^ 64)) (digits_value 10 text)
read text r parsed number =
    let (some, digits) = both (nat_lt 0 (length text)) (all_ascii_digits text) number in
    (lt_of 0 (length text) some, parse_digits own 64 text r parsed digits)

pub parsed_ok : {E : Type 0} (text : List ℕ) (r : Result ℕ E) → ParsesUnsigned 64 10 text r → is_number text ≡ true → digits_value 10 text < 2 ^ 64 → IsOk r
parsed_ok {E} text (Ok m) parsed number fits = refl
parsed_ok {E} text (Err e) parsed number fits = let (some, wrong) = read text (Err e) parsed number in absurd (wrong (some, fits))

past : (a : Bool) (m n : ℕ) → n < m → (a && nat_le m n) ≡ false
past true m n more = grind (arith, nat_tests)
past false m n more = refl

large : (n greatest : ℕ) → greatest < 2 ^ 64 → (n < 2 ^ 64 → ⊥) → greatest < n
large n greatest fits wrong = elim (cases_lt greatest n) [ inl less ↦ less | inr le ↦ absurd (wrong (omega arith)) ]

-- digits that aren't read lie past the greatest value
pub unread_past : {E : Type 0} (text : List ℕ) (r : Result ℕ E) (e : E) (least greatest : ℕ) → r ≡ Err e → ParsesUnsigned 64 10 text r → is_number text ≡ true → greatest < 2 ^ 64 → is_within least greatest text ≡ false
unread_past text (Ok m) e least greatest is parsed number fits = cc
unread_past text (Err d) e least greatest is parsed number fits =
    let (some, wrong) = read text (Err d) parsed number in
    past (nat_le least (digits_value 10 text)) (digits_value 10 text) greatest (large (digits_value 10 text) greatest fits (λ small. wrong (some, small)))
