-- A decimal has at most 38 digits.
use Rattle.std.proofs.Common.{◌≡◌, ℕ, suc, ◌+◌, ◌-◌, ◌*◌, ◌^◌, ◌<◌, ◌≤◌, Bool, true, false, cond, List, [], ◌∷◌, ◌++◌, Option, Some, None, length, take, drop, filter, refl, sym, ap, ◌∙◌, arith, length-append, append-nil, take-append-drop, nat_le, nat_lt, get_or}
use Rattle.std.proofs.Math.Nat.{pow-le-pow_right}
use borrow.Author.Tests.{ltb-true}
use Rattle.std.specs.Char.{is_ascii_digit}
use Rattle.std.specs.Option.{option_map, option_map_or}
use Rattle.std.specs.Char.{digit_value}
use Rattle.std.specs.Str.Parse.{AllDigits, digits_value}
use Rattle.std.proofs.lemmas.List.Elements.{filter-append, filter_more}
use Rattle.std.proofs.lemmas.List.Filters.{length-filter_more}
use Rattle.std.proofs.lemmas.Str.{digit_value_digit}
use Rattle.std.proofs.lemmas.Bool.Decides.{nat_tests}
use Rattle.std.proofs.lemmas.Int.Digits.{digits_value-lt, digits_value_push}
use Rattle.trex_decimal.specs.Decimal.{digits_number}
use Rattle.trex_decimal.specs.declared.place.Place.{Place}
use Rattle.trex_decimal.specs.declared.place.Place.TheVariants.{Start, Whole, Point, Fraction, Mark, Sign, Power, End}
use Rattle.trex_decimal.proofs.Fronts.{past_none}
use Rattle.trex_decimal.specs.Grammar.{next, if_room, is_point, is_mark, is_sign, stop_from, stop_of}

-- how many digits may still stand from a place on
abbrev room : Place → ℕ
room Start = 38
room (Whole left) = left + 2
room (Point left) = left + 3
room (Fraction left) = left + 2
room Mark = 2
room Sign = 2
room (Power first) = 1
room End = 0

-- each way through a choice leads to the fact
pick : (c : Bool) (x y : Option Place) (q : Place) (P : Type 0) → (x ≡ Some q → P) → (y ≡ Some q → P) → cond c x y ≡ Some q → P
pick true x y q P one other e = one e
pick false x y q P one other e = other e

-- a digit takes one of the room, any other byte none
counted : (c : Bool) (x y : Option Place) (q : Place) (most : ℕ) → (x ≡ Some q → 1 + room q ≤ most) → (y ≡ Some q → room q ≤ most)
    → cond c x y ≡ Some q → cond c 1 0 + room q ≤ most
counted true x y q most one other e = one e
counted false x y q most one other e = let less : room q ≤ most = other e in omega arith

room_at : (p q : Place) → Some p ≡ Some q → room q ≡ room p
room_at p q e = let same : p ≡ q = cc in ap room (sym same)

room_left : (c : Bool) (left : ℕ) (place : ℕ → Place) (q : Place) → (c ≡ true → 0 < left) → cond c (Some (place (left - 1))) None ≡ Some q
    → (n : ℕ) × (left ≡ suc n) × (room q ≡ room (place n))
room_left true left place q some e = let more : 0 < left = some refl in (left - 1, omega arith, room_at (place (left - 1)) q e)
room_left false left place q some e = cc

if_room-place : (left : ℕ) (place : ℕ → Place) (q : Place) → if_room left place ≡ Some q → (n : ℕ) × (left ≡ suc n) × (room q ≡ room (place n))
if_room-place left place q e = room_left (nat_lt 0 left) left place q (ltb-true 0 left) e

-- no byte but a digit takes room
next-room : (p : Place) (b : ℕ) (q : Place) → next p b ≡ Some q → cond (is_ascii_digit b) 1 0 + room q ≤ room p
next-room Start b q e = counted (is_ascii_digit b) (Some (Whole 35)) None q 38 (λ w. omega (arith, room_at (Whole 35) q w)) (λ w. cc) e
next-room (Whole left) b q e =
    counted (is_ascii_digit b) (if_room left Whole) (cond (is_point b) (if_room left Point) (cond (is_mark b) (Some Mark) None)) q (left + 2)
    (λ w. let (n, more, is) = if_room-place left Whole q w in omega (arith, more, is))
    (pick (is_point b) (if_room left Point) (cond (is_mark b) (Some Mark) None) q (room q ≤ left + 2)
    (λ w. let (n, more, is) = if_room-place left Point q w in omega (arith, more, is))
    (pick (is_mark b) (Some Mark) None q (room q ≤ left + 2) (λ w. omega (arith, room_at Mark q w)) (λ w. cc)))
    e
next-room (Point left) b q e = counted (is_ascii_digit b) (Some (Fraction left)) None q (left + 3) (λ w. omega (arith, room_at (Fraction left) q w)) (λ w. cc) e
next-room (Fraction left) b q e =
    counted (is_ascii_digit b) (if_room left Fraction) (cond (is_mark b) (Some Mark) None) q (left + 2)
    (λ w. let (n, more, is) = if_room-place left Fraction q w in omega (arith, more, is))
    (pick (is_mark b) (Some Mark) None q (room q ≤ left + 2) (λ w. omega (arith, room_at Mark q w)) (λ w. cc))
    e
next-room Mark b q e =
    counted (is_ascii_digit b) (Some (Power (b - 48))) (cond (is_sign b) (Some Sign) None) q 2
    (λ w. omega (arith, room_at (Power (b - 48)) q w))
    (pick (is_sign b) (Some Sign) None q (room q ≤ 2) (λ w. omega (arith, room_at Sign q w)) (λ w. cc))
    e
next-room Sign b q e = counted (is_ascii_digit b) (Some (Power (b - 48))) None q 2 (λ w. omega (arith, room_at (Power (b - 48)) q w)) (λ w. cc) e
next-room (Power first) b q e =
    counted (is_ascii_digit b) (cond (nat_le (10 * first + (b - 48)) 20) (Some End) None) None q 1
    (pick (nat_le (10 * first + (b - 48)) 20) (Some End) None q (1 + room q ≤ 1) (λ w. omega (arith, room_at End q w)) (λ w. cc))
    (λ w. cc) e
next-room End b q e = cc

length_counted : (c : Bool) (b : ℕ) (bs : List ℕ) → length (cond c (b ∷ bs) bs) ≡ cond c 1 0 + length bs
length_counted true b bs = omega arith
length_counted false b bs = omega arith

length-filter-cons : (b : ℕ) (bs : List ℕ) → length (filter is_ascii_digit (b ∷ bs)) ≡ cond (is_ascii_digit b) 1 0 + length (filter is_ascii_digit bs)
length-filter-cons b bs = length_counted (is_ascii_digit b) b (filter is_ascii_digit bs)

few_past : (p : Place) (b : ℕ) (bs : List ℕ) (led : Option Place) → next p b ≡ led
    → ((q : Place) → stop_from q bs ≡ None → length (filter is_ascii_digit bs) ≤ room q)
    → option_map_or (λ p. option_map (λ n. 1 + n) (stop_from p bs)) led (Some 0) ≡ None → length (filter is_ascii_digit (b ∷ bs)) ≤ room p
few_past p b bs None leads ih e = cc
few_past p b bs (Some q) leads ih e =
    omega (arith, length-filter-cons b bs, next-room p b q leads, ih q (past_none (stop_from q bs) e))

few : (p : Place) (text : List ℕ) → stop_from p text ≡ None → length (filter is_ascii_digit text) ≤ room p
few p [] e = omega arith
few p (b ∷ bs) e = few_past p b bs (next p b) refl (λ q. few q bs) e

pub few_digits : (text : List ℕ) → stop_of text ≡ None → length (filter is_ascii_digit text) ≤ 38
unfolding stop_of
few_digits text e = few Start text e

split : (text : List ℕ) (n : ℕ) → length (filter is_ascii_digit text) ≡ length (filter is_ascii_digit (take n text)) + length (filter is_ascii_digit (drop n text))
split text n =
    ap (λ l. length (filter is_ascii_digit l)) (sym (take-append-drop n text))
    ∙ ap length (filter-append is_ascii_digit (take n text) (drop n text))
    ∙ length-append (filter is_ascii_digit (take n text)) (filter is_ascii_digit (drop n text))

-- a part of a text has no more digits than the text
pub few_before : (text : List ℕ) (n most : ℕ) → length (filter is_ascii_digit text) ≤ most → length (filter is_ascii_digit (take n text)) ≤ most
few_before text n most h = omega (arith, split text n, h)

-- an ascii digit's value, and that it is one
digit_of : (b : ℕ) → is_ascii_digit b ≡ true → (digit_value b ≡ b - 48) × (digit_value b < 10)
digit_of b is =
    let range : (48 ≤ b) × (b ≤ 57) = (grind (arith, nat_tests), grind (arith, nat_tests)) in
    let value : digit_value b + 48 ≡ b = digit_value_digit b range in
    (omega arith, omega arith)

pub digit_below : (b : ℕ) → is_ascii_digit b ≡ true → b - 48 < 10
digit_below b is = let (value, below) = digit_of b is in omega (arith, value, below)

all_digits_at : (c : Bool) (b : ℕ) (ds : List ℕ) → (c ≡ true → digit_value b < 10) → AllDigits 10 ds → AllDigits 10 (cond c (b ∷ ds) ds)
all_digits_at true b ds digit rest = (digit refl, rest)
all_digits_at false b ds digit rest = rest

all_digits_of : (text : List ℕ) → AllDigits 10 (filter is_ascii_digit text)
all_digits_of [] = tt
all_digits_of (b ∷ bs) = all_digits_at (is_ascii_digit b) b (filter is_ascii_digit bs) (λ is. (digit_of b is).1) (all_digits_of bs)

pub digits_number-below : (text : List ℕ) → digits_number text < 10 ^ length (filter is_ascii_digit text)
digits_number-below text = digits_value-lt 10 (filter is_ascii_digit text) (all_digits_of text)

-- one digit more, and one other byte more
pub digits_number-digit : (text : List ℕ) (i : ℕ) → i < length text → is_ascii_digit (get_or text i 0) ≡ true
    → digits_number (take (i + 1) text) ≡ digits_number (take i text) * 10 + (get_or text i 0 - 48)
digits_number-digit text i within is =
    let b = get_or text i 0 in
    let ds = filter is_ascii_digit (take i text) in
    let more : filter is_ascii_digit (take (i + 1) text) ≡ ds ++ b ∷ [] =
    filter_more is_ascii_digit text i 0 within ∙ ap (λ c. ds ++ cond c (b ∷ []) []) is in
    ap (digits_value 10) more ∙ digits_value_push 10 ds b ∙ ap (λ d. digits_value 10 ds * 10 + d) (digit_of b is).0

pub digits_number-other : (text : List ℕ) (i : ℕ) → i < length text → is_ascii_digit (get_or text i 0) ≡ false
    → digits_number (take (i + 1) text) ≡ digits_number (take i text)
digits_number-other text i within is =
    let ds = filter is_ascii_digit (take i text) in
    ap (digits_value 10) (filter_more is_ascii_digit text i 0 within ∙ ap (λ c. ds ++ cond c (get_or text i 0 ∷ []) []) is ∙ append-nil ds)

-- another digit takes a place more
pub length-filter-digit : (text : List ℕ) (i : ℕ) → i < length text → is_ascii_digit (get_or text i 0) ≡ true
    → length (filter is_ascii_digit (take (i + 1) text)) ≡ length (filter is_ascii_digit (take i text)) + 1
length-filter-digit text i within is =
    length-filter_more is_ascii_digit text i 0 within ∙ ap (λ c. length (filter is_ascii_digit (take i text)) + cond c 1 0) is

-- a number of so many digits fits, and one digit more does too
pub digits_number-fits : (text : List ℕ) (n : ℕ) → n ≡ digits_number text → length (filter is_ascii_digit text) ≤ 38 → n < 10 ^ 38
digits_number-fits text n is few =
    let most : 10 ^ length (filter is_ascii_digit text) ≤ 10 ^ 38 = pow-le-pow_right (omega arith) few in
    omega (arith, is, digits_number-below text)

pub digits_number-room : (text : List ℕ) (i n : ℕ) → i < length text → is_ascii_digit (get_or text i 0) ≡ true → n ≡ digits_number (take i text)
    → length (filter is_ascii_digit text) ≤ 38 → n < 10 ^ 37
digits_number-room text i n within is number few =
    let front = take i text in
    let fewer : length (filter is_ascii_digit front) ≤ 37 = omega (arith, length-filter-digit text i within is, few_before text (i + 1) 38 few) in
    let most : 10 ^ length (filter is_ascii_digit front) ≤ 10 ^ 37 = pow-le-pow_right (omega arith) fewer in
    omega (arith, number, digits_number-below front)
