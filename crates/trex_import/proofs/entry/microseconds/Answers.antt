use Rattle.std.proofs.Common.{◌≡◌, ℕ, ◌+◌, ◌-◌, ◌/◌, ◌%◌, ◌^◌, ◌<◌, ◌≤◌, false, List, [], ◌∷◌, ◌++◌, decimal, refl, ap, ◌∙◌, arith, inl, inr}
use Rattle.std.proofs.lemmas.Bool.{cases_lt}
use Rattle.std.proofs.lemmas.Fmt.{decimal_digit, decimal_step}
use Rattle.std.specs.Fmt.{char_count, padded_integral, format_spec}
use Rattle.trex_import.specs.Imported.{microseconds, three_digits}
use Rattle.std.proofs.lemmas.Result.{IfOk-weaker}
use Rattle.std.specs.String.{string_bytes}
use Rattle.trex_import.proofs.entry.microseconds.Goals as goal

-- a number, padded to three digits with zeros
padded : List ℕ → List ℕ
padded numeral = padded_integral (format_spec 32 0 4 3 (2 ^ 64 - 1)) false [] numeral

one_digit : (n : ℕ) → n < 10 → padded (decimal n) ≡ three_digits n
unfolding padded_integral char_count padded
one_digit n less =
    let hundreds : n / 100 ≡ 0 = omega arith in
    let tens : n / 10 % 10 ≡ 0 = omega arith in
    let ones : n % 10 ≡ n = omega arith in
    ap padded (decimal_digit n less) ∙ rw (hundreds, tens, ones) refl

two_digits : (n : ℕ) → 10 ≤ n → n < 100 → padded (decimal n) ≡ three_digits n
unfolding padded_integral char_count padded
two_digits n more less =
    let hundreds : n / 100 ≡ 0 = omega arith in
    let tens : n / 10 % 10 ≡ n / 10 = omega arith in
    ap padded (decimal_step n more (omega arith) ∙ ap (λ l. l ++ (48 + n % 10) ∷ []) (decimal_digit (n / 10) (omega arith))) ∙ rw (hundreds, tens) refl

all_digits : (n : ℕ) → 100 ≤ n → n < 1000 → padded (decimal n) ≡ three_digits n
unfolding padded_integral char_count padded
all_digits n more less =
    let tens = n / 10 in
    let hundreds : tens / 10 ≡ n / 100 = omega arith in
    let first : decimal tens ≡ (48 + n / 100) ∷ (48 + tens % 10) ∷ [] = decimal_step tens (omega arith) (omega arith) ∙ ap (λ l. l ++ (48 + tens % 10) ∷ []) (decimal_digit (tens / 10) (omega arith) ∙ ap (λ h. (48 + h) ∷ []) hundreds) in
    ap padded (decimal_step n (omega arith) (omega arith) ∙ ap (λ l. l ++ (48 + n % 10) ∷ []) first) ∙ refl

pads : (n : ℕ) → n < 1000 → padded (decimal n) ≡ three_digits n
pads n less = elim (cases_lt n 10) [
  | inl small ↦ one_digit n small
  | inr more ↦ elim (cases_lt n 100) [ inl small ↦ two_digits n more small | inr most ↦ all_digits n most less ]
]

pub returns : goal.returns
unfolding padded
returns c =
    let ns = c.args.ns in
    IfOk-weaker c.format.result _ (λ text. string_bytes text ≡ microseconds ns) (λ text is. is ∙ ap (λ l. decimal (ns / 1000) ++ 46 ∷ l) (rw c.laid_out.ensures (pads (ns % 1000) (omega arith)))) c.format.ensures.ok
