-- Decimals as scaled whole numbers, and whole and signed numbers, of texts. Own.
use Rattle.std.specs.Prelude.{ℕ, ◌+◌, ◌*◌, ◌/◌, ◌^◌, ◌==◌, ◌&&◌, List, length, drop, ℤ, pos, neg_ℤ, Option, None, Some, Result, Ok, Err, if◌then◌else◌, nat_lt, slice_index, filter}
use Rattle.std.specs.Char.{is_ascii_digit}
use Rattle.std.specs.List.{list_any, before_first, after_first}
use Rattle.std.specs.Option.{option_map, ok_or}
use Rattle.std.specs.Str.{all_ascii_digits}
use Rattle.std.specs.Str.Parse.{digits_value}
use Rattle.trex_decimal.specs.declared.decimal.DecimalFault.{DecimalFault}
use Rattle.trex_decimal.specs.declared.decimal.DecimalFault.TheVariants.{Syntax, TooLarge}
use Rattle.trex_decimal.specs.Grammar.{stop_of, is_mark, is_point, IsLongestFront}

-- the number of one or more digits, if it is below a bound
abbrev pub number_below : ℕ → List ℕ → Option ℕ
number_below bound text = if nat_lt 0 (length text) && (all_ascii_digits text && nat_lt (digits_value 10 text) bound) then Some (digits_value 10 text) else None

-- the value of one or more digits, if a u64 holds it
unfoldable pub whole_of : List ℕ → Option ℕ
whole_of text = number_below (2 ^ 64) text

-- the value of one or more digits after an optional minus sign, if an i64 holds it
unfoldable pub signed_of : List ℕ → Option ℤ
signed_of text = if slice_index text 0 == 45 then option_map (λ n. neg_ℤ (pos n)) (number_below (2 ^ 63 + 1) (drop 1 text)) else option_map pos (number_below (2 ^ 63) text)

-- the number that the digits of a text write, whatever stands between them
abbrev pub digits_number : List ℕ → ℕ
digits_number text = digits_value 10 (filter is_ascii_digit text)

-- the floor of a decimal times 10 ^ digits. The decimal is m * 10 ^ (e - f): m is the number of its digits without the point,
-- f how many stand after the point, and e its exponent.
abbrev pub floor_of : List ℕ → ℕ → ℕ
floor_of text digits = if list_any (λ b. b == 45) exponent then m * 10 ^ digits / 10 ^ (f + e) else m * 10 ^ (digits + e) / 10 ^ f
  where
    mantissa : List ℕ
    mantissa = before_first is_mark text

    exponent : List ℕ
    exponent = drop (length mantissa) text

    m : ℕ
    m = digits_number mantissa

    f : ℕ
    f = length (after_first is_point mantissa)

    e : ℕ
    e = digits_number exponent

-- a value, if it lies below 10 ^ 30
abbrev pub below_limit : ℕ → Option ℕ
below_limit value = if nat_lt value (10 ^ 30) then Some value else None

-- the answer for a text that stops being a decimal at a place, or that is one and has this value
abbrev pub answer_of : Option ℕ → ℕ → Result ℕ DecimalFault
answer_of (Some at) value = Err (Syntax at)
answer_of None value = ok_or (below_limit value) TooLarge

-- a decimal times 10 ^ digits, floored
unfoldable pub scaled_of : List ℕ → ℕ → Result ℕ DecimalFault
scaled_of text digits = answer_of (stop_of text) (floor_of text digits)

-- a text that is no decimal stops being one after its longest front that is the front of a decimal
abbrev pub StopsAtFront : Result ℕ DecimalFault → List ℕ → Type 0
StopsAtFront (Ok value) text = Unit {0}
StopsAtFront (Err (Syntax at)) text = IsLongestFront text at
StopsAtFront (Err TooLarge) text = Unit {0}
