-- The form of a decimal: one or more digits; optionally a point and one or more digits; optionally an `e` or `E`, a sign or
-- none, and one or two digits of a value of at most 20. The digits before the `e` are at most 36. Own.
use Rattle.std.specs.Prelude.{◌≡◌, ℕ, ◌+◌, ◌-◌, ◌*◌, ◌<◌, ◌≤◌, ◌==◌, ◌||◌, Bool, true, false, List, [], ◌∷◌, ◌++◌, length, take, Option, None, Some, if◌then◌else◌, nat_lt, nat_le}
use Rattle.std.specs.Char.{is_ascii_digit}
use Rattle.std.specs.Option.{option_map, option_map_or}
use Rattle.trex_decimal.specs.declared.place.Place.{Place}
use Rattle.trex_decimal.specs.declared.place.Place.TheVariants.{Start, Whole, Point, Fraction, Mark, Sign, Power, End}

-- the mark of an exponent: `e` or `E`
abbrev pub is_mark : ℕ → Bool
is_mark b = b == 101 || b == 69

-- the point of a decimal
abbrev pub is_point : ℕ → Bool
is_point b = b == 46

-- a sign: `+` or `-`
abbrev pub is_sign : ℕ → Bool
is_sign b = b == 43 || b == 45

-- a place, if there is room for one more digit
abbrev pub if_room : ℕ → (ℕ → Place) → Option Place
if_room left place = if nat_lt 0 left then Some (place (left - 1)) else None

-- where a byte leads from a place, if it may stand there. The number at a place is how many more digits may stand before the
-- `e`, besides one that must follow a point; at the exponent's first digit it is that digit.
abbrev pub next : Place → ℕ → Option Place
next Start b = if is_ascii_digit b then Some (Whole 35) else None
next (Whole left) b = if is_ascii_digit b then if_room left Whole else (if is_point b then if_room left Point else (if is_mark b then Some Mark else None))
next (Point left) b = if is_ascii_digit b then Some (Fraction left) else None
next (Fraction left) b = if is_ascii_digit b then if_room left Fraction else (if is_mark b then Some Mark else None)
next Mark b = if is_ascii_digit b then Some (Power (b - 48)) else (if is_sign b then Some Sign else None)
next Sign b = if is_ascii_digit b then Some (Power (b - 48)) else None
next (Power first) b = if is_ascii_digit b then (if nat_le (10 * first + (b - 48)) 20 then Some End else None) else None
next End b = None

-- whether a decimal may end at a place
abbrev pub may_end : Place → Bool
may_end Start = false
may_end (Whole left) = true
may_end (Point left) = false
may_end (Fraction left) = true
may_end Mark = false
may_end Sign = false
may_end (Power first) = true
may_end End = true

-- how many bytes of a text may stand one after another from a place on, or nothing where all may and a decimal may end there
abbrev pub stop_from : Place → List ℕ → Option ℕ
stop_from place [] = if may_end place then None else Some 0
stop_from place (b ∷ bs) = option_map_or (λ then_place. option_map (λ n. 1 + n) (stop_from then_place bs)) (next place b) (Some 0)

-- where a text stops being a decimal, or nothing where it is one
unfoldable pub stop_of : List ℕ → Option ℕ
stop_of text = stop_from Start text

-- a text is a decimal
abbrev pub IsDecimal : List ℕ → Type 0
IsDecimal text = stop_of text ≡ None

-- a text is the front of a decimal
abbrev pub IsFront : List ℕ → Type 0
IsFront text = (rest : List ℕ) × IsDecimal (text ++ rest)

-- at is the length of a text's longest front that is the front of a decimal
pub record IsLongestFront (text : List ℕ) (at : ℕ) : Type 0 where
  pub within : at ≤ length text
  pub front : IsFront (take at text)
  pub longest : (n : ℕ) → at < n → n ≤ length text → ¬ IsFront (take n text)
