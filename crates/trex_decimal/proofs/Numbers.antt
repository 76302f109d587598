-- What std's reading of whole and signed numbers gives, by the words for them here.
use Rattle.std.proofs.Common.{◌≡◌, ◌≢◌, ℕ, ◌+◌, ◌^◌, ◌<◌, ◌≤◌, Bool, true, false, cond, ◌&&◌, ◌==◌, List, length, drop, get_or, Option, Some, None, Result, Ok, Err, ℤ, pos, neg_ℤ, w64, refl, sym, ap, ◌∙◌, arith, nat_lt}
use Rattle.std.specs.Result.{result_ok, OkIff}
use Rattle.std.specs.Option.{option_map}
use Rattle.std.specs.Str.{all_ascii_digits}
use Rattle.std.specs.Str.Parse.{digits_value, ParsesUnsigned, ParsesSigned}
use Rattle.std.proofs.lemmas.Bool.Decides.{nat_tests}
use Rattle.std.proofs.lemmas.Str.Parse.{IsNumeralModel, numerals_by_value, tells_all_ascii_digits, parse_plain, parse_signed_plain, parse_signed_minus, not_in_digits}
use Rattle.trex_decimal.specs.Decimal.{number_below, whole_of, signed_of}

pub own : IsNumeralModel (λ ds. all_ascii_digits ds ≡ true) (digits_value 10)
own = numerals_by_value (λ ds. all_ascii_digits ds ≡ true) tells_all_ascii_digits

chosen : (a b c : Bool) (n : ℕ) → a ≡ true → b ≡ true → c ≡ true → cond (a && (b && c)) (Some n) None ≡ Some n
chosen true true true n p q r = refl
chosen true true false n p q r = cc
chosen true false c n p q r = cc
chosen false b c n p q r = cc

refused : (a b c : Bool) (n : ℕ) → (a ≡ true → b ≡ true → c ≡ true → ⊥) → cond (a && (b && c)) (Some n) None ≡ None
refused true true true n wrong = absurd (wrong refl refl refl)
refused true true false n wrong = refl
refused true false c n wrong = refl
refused false b c n wrong = refl

lt_true : (m n : ℕ) → m < n → nat_lt m n ≡ true
lt_true m n less = grind (arith, nat_tests)

true_lt : (m n : ℕ) → nat_lt m n ≡ true → m < n
true_lt m n is = grind (arith, nat_tests)

pub below_some : (bound : ℕ) (text : List ℕ) → all_ascii_digits text ≡ true → 0 < length text → digits_value 10 text < bound → number_below bound text ≡ Some (digits_value 10 text)
below_some bound text digits some small = chosen (nat_lt 0 (length text)) (all_ascii_digits text) (nat_lt (digits_value 10 text) bound) (digits_value 10 text) (lt_true 0 (length text) some) digits (lt_true (digits_value 10 text) bound small)

below_none : (bound : ℕ) (text : List ℕ) → ((all_ascii_digits text ≡ true) × (0 < length text) × (digits_value 10 text < bound) → ⊥) → number_below bound text ≡ None
below_none bound text wrong = refused (nat_lt 0 (length text)) (all_ascii_digits text) (nat_lt (digits_value 10 text) bound) (digits_value 10 text) (λ a b c. wrong (b, true_lt 0 (length text) a, true_lt (digits_value 10 text) bound c))

-- a text that begins with a plus sign isn't a number
plus_none : (bound : ℕ) (text : List ℕ) → get_or text 0 0 ≡ 43 → number_below bound text ≡ None
plus_none bound text plus = below_none bound text (λ (digits, some, small). not_in_digits own text 43 digits (λ range. absurd (omega arith)) 0 some plus)

pub whole_of-plus : (text : List ℕ) → get_or text 0 0 ≡ 43 → whole_of text ≡ None
unfolding whole_of
whole_of-plus text plus = plus_none (2 ^ 64) text plus

read_whole : {E : Type 0} (text : List ℕ) (r : Result ℕ E)
    → OkIff r ((all_ascii_digits text ≡ true) × (0 < length text) × (digits_value 10 text < 2 ^ 64)) (digits_value 10 text)
    → result_ok r ≡ number_below (2 ^ 64) text
read_whole text (Ok n) (fits, is) = ap (λ n. Some n) is ∙ sym (below_some (2 ^ 64) text fits.0 fits.1 fits.2)
read_whole text (Err e) wrong = sym (below_none (2 ^ 64) text wrong)

pub whole_of-parsed : {E : Type 0} (text : List ℕ) (r : Result ℕ E) → ParsesUnsigned 64 10 text r → get_or text 0 0 ≢ 43 → result_ok r ≡ whole_of text
unfolding whole_of
whole_of-parsed text r parsed plain = read_whole text r (parse_plain own 64 text r parsed plain)

pub not_plus : (n : ℕ) (b : Bool) → b ≡ (n == 43) → b ≡ false → n ≢ 43
not_plus n b is other = grind (arith, nat_tests)

pub is_plus : (n : ℕ) (b : Bool) → b ≡ (n == 43) → b ≡ true → n ≡ 43
is_plus n b is same = grind (arith, nat_tests)

minus_is : (n : ℕ) → (n == 45) ≡ true → n ≡ 45
minus_is n e = grind (arith, nat_tests)

minus_other : (n : ℕ) → (n == 45) ≡ false → n ≢ 45
minus_other n e = grind (arith, nat_tests)

-- a number after a minus sign
abbrev negated : List ℕ → Option ℤ
negated text = option_map (λ n. neg_ℤ (pos n)) (number_below (2 ^ 63 + 1) (drop 1 text))

pub signed_of-plus : (text : List ℕ) → get_or text 0 0 ≡ 43 → signed_of text ≡ None
unfolding signed_of
signed_of-plus text plus =
    ap (λ n. cond (n == 45) (negated text) (option_map pos (number_below (2 ^ 63) text))) plus ∙ ap (option_map pos) (plus_none (2 ^ 63) text plus)

read_minus : {E : Type 0} (text : List ℕ) (r : Result ℤ E)
    → OkIff r ((all_ascii_digits (drop 1 text) ≡ true) × (0 < length (drop 1 text)) × (digits_value 10 (drop 1 text) ≤ 2 ^ 63)) (neg_ℤ (pos (digits_value 10 (drop 1 text))))
    → result_ok r ≡ negated text
read_minus text (Ok z) (fits, is) =
    let digits = drop 1 text in
    let least : digits_value 10 digits ≤ 2 ^ 63 = fits.2 in
    ap (λ z. Some z) is ∙ sym (ap (option_map (λ n. neg_ℤ (pos n))) (below_some (2 ^ 63 + 1) digits fits.0 fits.1 (omega arith)))
read_minus text (Err e) wrong =
    let digits = drop 1 text in
    sym (ap (option_map (λ n. neg_ℤ (pos n))) (below_none (2 ^ 63 + 1) digits (λ (all, some, small). wrong (all, some, (let less : digits_value 10 digits < 2 ^ 63 + 1 = small in omega arith)))))

read_plain : {E : Type 0} (text : List ℕ) (r : Result ℤ E)
    → OkIff r ((all_ascii_digits text ≡ true) × (0 < length text) × (digits_value 10 text < 2 ^ 63)) (pos (digits_value 10 text))
    → result_ok r ≡ option_map pos (number_below (2 ^ 63) text)
read_plain text (Ok z) (fits, is) = ap (λ z. Some z) is ∙ sym (ap (option_map pos) (below_some (2 ^ 63) text fits.0 fits.1 fits.2))
read_plain text (Err e) wrong = sym (ap (option_map pos) (below_none (2 ^ 63) text wrong))

read_signed : {E : Type 0} (text : List ℕ) (r : Result ℤ E) (minus : Bool) → (get_or text 0 0 == 45) ≡ minus → ParsesSigned w64 10 text r → get_or text 0 0 ≢ 43
    → result_ok r ≡ cond minus (negated text) (option_map pos (number_below (2 ^ 63) text))
read_signed text r true minus parsed plain = read_minus text r (parse_signed_minus own w64 text r parsed (minus_is (get_or text 0 0) minus))
read_signed text r false minus parsed plain = read_plain text r (parse_signed_plain own w64 text r parsed plain (minus_other (get_or text 0 0) minus))

pub signed_of-parsed : {E : Type 0} (text : List ℕ) (r : Result ℤ E) → ParsesSigned w64 10 text r → get_or text 0 0 ≢ 43 → result_ok r ≡ signed_of text
unfolding signed_of
signed_of-parsed text r parsed plain = read_signed text r (get_or text 0 0 == 45) refl parsed plain
