-- The texts of addresses.
use Rattle.std.specs.Prelude.{ℕ, ◌+◌, ◌*◌, ◌==◌, ◌&&◌, nat_le, nat_lt, Bool, if◌then◌else◌, List, [], ◌∷◌, length, slice_index, Option, None, Some, option_map, option_and_then}
use Rattle.std.specs.Char.{digit_value}
use Rattle.std.specs.Int.{from_be_bytes, w32}
use Rattle.std.specs.List.{before_first, after_first}
use Rattle.trex_decimal.specs.Decimal.{whole_of}

-- the values, where each is there
abbrev pub all_of : List (Option ℕ) → Option (List ℕ)
all_of [] = Some []
all_of (None ∷ options) = None
all_of (Some n ∷ options) = option_map (λ ns. n ∷ ns) (all_of options)

-- the value of a hexadecimal digit, in either case
abbrev pub hex_digit : ℕ → Option ℕ
hex_digit c = if nat_lt (digit_value c) 16 then Some (digit_value c) else None

-- the byte that two hexadecimal digits write, from a place on
abbrev pub pair_at : List ℕ → ℕ → Option ℕ
pair_at text at = option_and_then (λ high. option_map (λ low. 16 * high + low) (hex_digit (slice_index text (at + 1)))) (hex_digit (slice_index text at))

-- a text has 17 bytes, with ':' behind each pair but the last
abbrev pub is_paired : List ℕ → Bool
is_paired text =
    length text == 17 && slice_index text 2 == 58 && slice_index text 5 == 58 && slice_index text 8 == 58 && slice_index text 11 == 58
    && slice_index text 14 == 58

-- A MAC address: six pairs of hexadecimal digits, joined by ':', each the number of a byte. Own.
unfoldable pub mac_of : List ℕ → Option (List ℕ)
mac_of text =
    if is_paired text
    then all_of (pair_at text 0 ∷ pair_at text 3 ∷ pair_at text 6 ∷ pair_at text 9 ∷ pair_at text 12 ∷ pair_at text 15 ∷ [])
    else None

-- a number from 0 to 255, of one to three digits
abbrev pub octet_of : List ℕ → Option ℕ
octet_of text = if nat_le (length text) 3 then option_and_then (λ n. if nat_le n 255 then Some n else None) (whole_of text) else None

-- what stands before the first '.', all where there is none
abbrev pub before_dot : List ℕ → List ℕ
before_dot text = before_first (λ c. c == 46) text

-- what stands behind the first '.', nothing where there is none
abbrev pub behind_dot : List ℕ → List ℕ
behind_dot text = after_first (λ c. c == 46) text

-- the four numbers of an IPv4 address, joined by '.'
unfoldable pub octets_of : List ℕ → Option (List ℕ)
octets_of text =
    let second = behind_dot text in
    let third = behind_dot second in
    all_of (octet_of (before_dot text) ∷ octet_of (before_dot second) ∷ octet_of (before_dot third) ∷ octet_of (behind_dot third) ∷ [])

-- An IPv4 address in dotted decimal (RFC 1123, section 2.1), each number of one to three digits: the number of 32 bits, whose highest
-- eight are the first.
abbrev pub address_of : List ℕ → Option ℕ
address_of text = option_map (from_be_bytes w32) (octets_of text)
