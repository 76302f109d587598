-- Numbers that are written are read back: whole numbers in decimal, and thousandths with three digits after the point.
use Rattle.std.proofs.Common.{◌≡◌, ℕ, suc, ◌+◌, ◌-◌, ◌*◌, ◌/◌, ◌^◌, ◌<◌, ◌≤◌, Bool, true, false, cond, not, ◌&&◌, ◌==◌, List, [], ◌∷◌, ◌++◌, length, drop, filter, decimal, Some, None, Ok, refl, sym, ap, ap₂, ◌∙◌, subst, arith, lt-ltb, length-append, append_assoc, append-nil}
use Rattle.std.proofs.Math.Nat.{mul-div_cancel}
use Rattle.std.proofs.lemmas.Bool.{and_parts, not_from_false}
use Rattle.std.proofs.lemmas.Bool.Decides.{nat_tests}
use Rattle.std.proofs.lemmas.Fmt.{decimal_nonempty, digits_decimal, digits_value-decimal, length-decimal-le}
use Rattle.std.proofs.lemmas.Int.Digits.{digits_value_push}
use Rattle.std.proofs.lemmas.List.{drop_at, take_all, drop_all}
use Rattle.std.proofs.lemmas.List.Elements.{filter-append}
use Rattle.std.proofs.lemmas.List.Folds.{list_all-append}
use Rattle.std.specs.Char.{digit_value, is_ascii_digit}
use Rattle.std.specs.List.{after_first, before_first, list_all, list_any, position_or_len}
use Rattle.std.specs.Option.{ok_or, option_map}
use Rattle.std.specs.Str.{all_ascii_digits}
use Rattle.std.specs.Str.Parse.{digits_value}
use Rattle.trex_decimal.specs.Decimal.{answer_of, digits_number, floor_of, scaled_of, whole_of}
use Rattle.trex_decimal.specs.declared.decimal.DecimalFault.TheVariants.{TooLarge}
use Rattle.trex_decimal.specs.declared.place.Place.TheVariants.{Whole}
use Rattle.trex_decimal.specs.Grammar.{is_mark, is_point, stop_from, stop_of}
use Rattle.trex_decimal.proofs.Numbers.{below_some, own}
use Rattle.trex_decimal.proofs.Powers.{below_limit-small}

pub whole_of-decimal : (n : ℕ) → n < 2 ^ 64 → whole_of (decimal n) ≡ Some n
unfolding whole_of
whole_of-decimal n small =
    let value : digits_value 10 (decimal n) ≡ n = digits_value-decimal own n small in
    below_some (2 ^ 64) (decimal n) (digits_decimal own n small) (decimal_nonempty n small) (omega arith) ∙ ap (λ n. Some n) value

-- ---- digits, a point and three digits

-- a digit is neither the mark of an exponent nor the point
digit_tells : (b : ℕ) → is_ascii_digit b ≡ true → (is_mark b ≡ false) × (is_point b ≡ false)
digit_tells b digit = (grind (arith, nat_tests), grind (arith, nat_tests))

digit_is : (d : ℕ) → d < 10 → is_ascii_digit (48 + d) ≡ true
digit_is d small = grind (arith, nat_tests)

value_is : (d : ℕ) → d < 10 → digit_value (48 + d) ≡ d
value_is d small = grind (arith, nat_tests)

-- no place of the front passes
place-behind : (p : ℕ → Bool) (front rest : List ℕ) → list_all (λ b. not (p b)) front ≡ true → position_or_len p (front ++ rest) ≡ length front + position_or_len p rest
place-behind p [] rest none = omega arith
place-behind p (b ∷ front) rest none =
    let parts = and_parts (not (p b)) (list_all (λ b. not (p b)) front) none in
    rw parts.0 (omega (arith, place-behind p front rest parts.1))

digits_no_mark : (ds : List ℕ) → all_ascii_digits ds ≡ true → list_all (λ b. not (is_mark b)) ds ≡ true
digits_no_mark [] all = refl
digits_no_mark (b ∷ ds) all =
    let parts = and_parts (is_ascii_digit b) (all_ascii_digits ds) all in
    ap₂ (λ x y. x && y) (not_from_false (is_mark b) (digit_tells b parts.0).0) (digits_no_mark ds parts.1)

digits_no_point : (ds : List ℕ) → all_ascii_digits ds ≡ true → list_all (λ b. not (is_point b)) ds ≡ true
digits_no_point [] all = refl
digits_no_point (b ∷ ds) all =
    let parts = and_parts (is_ascii_digit b) (all_ascii_digits ds) all in
    ap₂ (λ x y. x && y) (not_from_false (is_point b) (digit_tells b parts.0).1) (digits_no_point ds parts.1)

digits-filter : (ds : List ℕ) → all_ascii_digits ds ≡ true → filter is_ascii_digit ds ≡ ds
digits-filter [] all = refl
digits-filter (b ∷ ds) all =
    let parts = and_parts (is_ascii_digit b) (all_ascii_digits ds) all in
    rw parts.0 (ap (λ l. b ∷ l) (digits-filter ds parts.1))

-- digits go on before the point, while there is room
stop-digits : (ds rest : List ℕ) (left : ℕ) → all_ascii_digits ds ≡ true → stop_from (Whole left) rest ≡ None → stop_from (Whole (length ds + left)) (ds ++ rest) ≡ None
stop-digits [] rest left all ends = let same : left ≡ 0 + left = omega arith in subst (λ n. stop_from (Whole n) rest ≡ None) same ends
stop-digits (b ∷ ds) rest left all ends =
    let parts = and_parts (is_ascii_digit b) (all_ascii_digits ds) all in
    let some : 0 < suc (length ds) + left = omega arith in
    let less : suc (length ds) + left - 1 ≡ length ds + left = omega arith in
    rw (parts.0, lt-ltb 0 (suc (length ds) + left) some, less) (ap (option_map (λ n. 1 + n)) (stop-digits ds rest left parts.1 ends))

-- a decimal of digits and of what may follow them
stop-text : (ds rest : List ℕ) → all_ascii_digits ds ≡ true → 0 < length ds → length ds ≤ 33 → ((left : ℕ) → 3 ≤ left → stop_from (Whole left) rest ≡ None)
    → stop_of (ds ++ rest) ≡ None
unfolding stop_of
stop-text [] rest all some few ends = absurd (omega arith)
stop-text (d ∷ ds) rest all some few ends =
    let parts = and_parts (is_ascii_digit d) (all_ascii_digits ds) all in
    let left = 35 - length ds in
    let room : length ds + left ≡ 35 = omega arith in
    rw parts.0
    (ap (option_map (λ n. 1 + n)) (subst (λ n. stop_from (Whole n) (ds ++ rest) ≡ None) room (stop-digits ds rest left parts.1 (ends left (omega arith)))))

-- the floor of a decimal, by what stands before and after its mark
abbrev floor_by : List ℕ → List ℕ → ℕ → ℕ
floor_by mantissa exponent digits =
    cond (list_any (λ b. b == 45) exponent)
    (digits_number mantissa * 10 ^ digits / 10 ^ (length (after_first is_point mantissa) + digits_number exponent))
    (digits_number mantissa * 10 ^ (digits + digits_number exponent) / 10 ^ length (after_first is_point mantissa))

floor_of-by : (text : List ℕ) (digits : ℕ) → floor_of text digits ≡ floor_by (before_first is_mark text) (drop (length (before_first is_mark text)) text) digits
floor_of-by text digits = refl

module _ (ds : List ℕ) (a b c : ℕ) (all : all_ascii_digits ds ≡ true) (a_is : a < 10) (b_is : b < 10) (c_is : c < 10) where
  abbrev three : List ℕ
  three = (48 + a) ∷ (48 + b) ∷ (48 + c) ∷ []

  abbrev text : List ℕ
  text = ds ++ 46 ∷ three

  three_digits : all_ascii_digits three ≡ true
  three_digits = rw (digit_is a a_is, digit_is b b_is, digit_is c c_is) refl

  stop-three : (left : ℕ) → 3 ≤ left → stop_from (Whole left) (46 ∷ three) ≡ None
  stop-three left room =
      rw (lt-ltb 0 left (omega arith), digit_is a a_is, digit_is b b_is, lt-ltb 0 (left - 1) (omega arith), digit_is c c_is, lt-ltb 0 (left - 1 - 1) (omega arith)) refl

  no_mark : list_all (λ b. not (is_mark b)) text ≡ true
  no_mark = list_all-append (λ b. not (is_mark b)) ds (46 ∷ three) ∙ ap₂ (λ x y. x && y) (digits_no_mark ds all) (digits_no_mark three three_digits)

  before_mark : before_first is_mark text ≡ text
  before_mark =
      let place = place-behind is_mark text [] no_mark in
      take_all (position_or_len is_mark text) text (omega (arith, place, ap (position_or_len is_mark) (append-nil text)))

  behind_point : after_first is_point text ≡ three
  behind_point =
      let place = place-behind is_point ds (46 ∷ three) (digits_no_point ds all) in
      ap (λ n. drop (n + 1) text) place
      ∙ ap (drop (length ds + 0 + 1)) (sym (append_assoc ds (46 ∷ []) three))
      ∙ drop_at (ds ++ 46 ∷ []) three (length ds + 0 + 1) (omega (arith, length-append ds (46 ∷ [])))

  filtered : filter is_ascii_digit text ≡ ds ++ three
  filtered =
      filter-append is_ascii_digit ds (46 ∷ three) ∙ ap₂ (λ x y. x ++ y) (digits-filter ds all) (digits-filter three three_digits)

  number : digits_number text ≡ digits_value 10 ds * 1000 + a * 100 + b * 10 + c
  number =
      let n = digits_value 10 ds in
      let first : digits_value 10 (ds ++ (48 + a) ∷ []) ≡ n * 10 + a = omega (arith, digits_value_push 10 ds (48 + a), value_is a a_is) in
      let second : digits_value 10 ((ds ++ (48 + a) ∷ []) ++ (48 + b) ∷ []) ≡ (n * 10 + a) * 10 + b = omega (arith, digits_value_push 10 (ds ++ (48 + a) ∷ []) (48 + b), value_is b b_is, first) in
      let third : digits_value 10 (((ds ++ (48 + a) ∷ []) ++ (48 + b) ∷ []) ++ (48 + c) ∷ []) ≡ ((n * 10 + a) * 10 + b) * 10 + c = omega (arith, digits_value_push 10 ((ds ++ (48 + a) ∷ []) ++ (48 + b) ∷ []) (48 + c), value_is c c_is, second) in
      ap (digits_value 10) (filtered ∙ sym (append_assoc (ds ++ (48 + a) ∷ []) ((48 + b) ∷ []) ((48 + c) ∷ []) ∙ append_assoc ds ((48 + a) ∷ []) ((48 + b) ∷ (48 + c) ∷ []))) ∙ third ∙ omega arith

  floor : floor_of text 3 ≡ digits_value 10 ds * 1000 + a * 100 + b * 10 + c
  floor =
      let m = digits_value 10 ds * 1000 + a * 100 + b * 10 + c in
      floor_of-by text 3
      ∙ ap₂ (λ mantissa exponent. floor_by mantissa exponent 3) before_mark (ap (λ l. drop (length l) text) before_mark ∙ drop_all (length text) text (omega arith))
      ∙ ap₂ (λ n l. n * 10 ^ 3 / 10 ^ length l) number behind_point
      ∙ mul-div_cancel m (omega arith)

  scaled : 0 < length ds → length ds ≤ 33 → digits_value 10 ds < 10 ^ 26 → scaled_of text 3 ≡ Ok (digits_value 10 ds * 1000 + a * 100 + b * 10 + c)
  unfolding scaled_of
  scaled some few small =
      let m = digits_value 10 ds * 1000 + a * 100 + b * 10 + c in
      ap₂ answer_of (stop-text ds (46 ∷ three) all some few stop-three) floor ∙ ap (λ o. ok_or o TooLarge) (below_limit-small m (omega arith))

-- thousandths, the whole part in decimal
pub scaled_of-thousandths : (n a b c : ℕ) → n < 10 ^ 15 → a < 10 → b < 10 → c < 10
    → scaled_of (decimal n ++ 46 ∷ (48 + a) ∷ (48 + b) ∷ (48 + c) ∷ []) 3 ≡ Ok (n * 1000 + a * 100 + b * 10 + c)
scaled_of-thousandths n a b c small a_is b_is c_is =
    let fits : n < 2 ^ 64 = omega arith in
    let value : digits_value 10 (decimal n) ≡ n = digits_value-decimal own n fits in
    let few : length (decimal n) ≤ 15 = length-decimal-le 15 n (omega arith) small fits in
    scaled (decimal n) a b c (digits_decimal own n fits) a_is b_is c_is (decimal_nonempty n fits) (omega arith) (omega arith)
    ∙ ap (λ n. Ok (n * 1000 + a * 100 + b * 10 + c)) value
