-- The names of an IPv6 header's fields, where each lies (RFC 8200, section 3), and where the header stands in a packet. The names are own.
use Rattle.std.specs.Prelude.{ℕ, ◌+◌, ◌/◌, ◌==◌, ◌&&◌, codes, if◌then◌else◌, Bool, List, [], ◌∷◌, slice_index, Option, Some, None}
use Rattle.std.specs.List.{find}
use Rattle.std.specs.Option.{option_map, option_and_then}
use Rattle.std.specs.Str.{bytes_eq}
use Rattle.trex_layers.specs.Layers.{behind_tags, has_bytes, tags_of, type_after}
use Rattle.trex_ipv6.specs.declared.places.Place6.{Place6}
use Rattle.trex_ipv6.specs.declared.table.Field6.{Field6}

-- an IPv6 header stands at a place (RFC 8200, section 3): its 40 bytes are there, and the version is 6
abbrev pub is_ipv6 : List ℕ → ℕ → Bool
is_ipv6 bytes at = has_bytes bytes at 40 && (slice_index bytes at / 16 == 6)

-- the place behind the IPv6 header at a place
abbrev pub end_of_ipv6 : List ℕ → ℕ → Option ℕ
end_of_ipv6 bytes at = if is_ipv6 bytes at then Some (at + 40) else None

-- the packet begins with an Ethernet header and at most two tags, the last type is 0x86DD (RFC 2464, section 3), and an IPv6 header follows
abbrev pub has_ipv6 : List ℕ → Bool
has_ipv6 bytes = has_bytes bytes 0 14 && ((type_after bytes (tags_of bytes) == 0x86dd) && is_ipv6 bytes (behind_tags (tags_of bytes)))

-- the place of the IPv6 header behind Ethernet and at most two tags
abbrev pub header6_of : List ℕ → Option ℕ
header6_of bytes = if has_ipv6 bytes then Some (behind_tags (tags_of bytes)) else None

-- a field: its name, its first byte counted from the header's, and its length
pub record Row : Type 0 where
  pub name : List ℕ
  pub offset : ℕ
  pub size : ℕ

-- a field from its columns
abbrev pub row : List ℕ → ℕ → ℕ → Row
row name offset size = record { name = name; offset = offset; size = size }

-- All fields. A name with a number at its end is one byte of the longer field.
unfoldable pub field6_table : List Row
field6_table =
    row (codes "IPv6.len") 4 2 ∷
    row (codes "IPv6.next") 6 1 ∷
    row (codes "IPv6.hop") 7 1 ∷
    row (codes "IPv6.src") 8 16 ∷
    row (codes "IPv6.dst") 24 16 ∷
    row (codes "IPv6.src.0") 8 1 ∷
    row (codes "IPv6.src.1") 9 1 ∷
    row (codes "IPv6.src.2") 10 1 ∷
    row (codes "IPv6.src.3") 11 1 ∷
    row (codes "IPv6.src.4") 12 1 ∷
    row (codes "IPv6.src.5") 13 1 ∷
    row (codes "IPv6.src.6") 14 1 ∷
    row (codes "IPv6.src.7") 15 1 ∷
    row (codes "IPv6.src.8") 16 1 ∷
    row (codes "IPv6.src.9") 17 1 ∷
    row (codes "IPv6.src.10") 18 1 ∷
    row (codes "IPv6.src.11") 19 1 ∷
    row (codes "IPv6.src.12") 20 1 ∷
    row (codes "IPv6.src.13") 21 1 ∷
    row (codes "IPv6.src.14") 22 1 ∷
    row (codes "IPv6.src.15") 23 1 ∷
    row (codes "IPv6.dst.0") 24 1 ∷
    row (codes "IPv6.dst.1") 25 1 ∷
    row (codes "IPv6.dst.2") 26 1 ∷
    row (codes "IPv6.dst.3") 27 1 ∷
    row (codes "IPv6.dst.4") 28 1 ∷
    row (codes "IPv6.dst.5") 29 1 ∷
    row (codes "IPv6.dst.6") 30 1 ∷
    row (codes "IPv6.dst.7") 31 1 ∷
    row (codes "IPv6.dst.8") 32 1 ∷
    row (codes "IPv6.dst.9") 33 1 ∷
    row (codes "IPv6.dst.10") 34 1 ∷
    row (codes "IPv6.dst.11") 35 1 ∷
    row (codes "IPv6.dst.12") 36 1 ∷
    row (codes "IPv6.dst.13") 37 1 ∷
    row (codes "IPv6.dst.14") 38 1 ∷
    row (codes "IPv6.dst.15") 39 1 ∷
    []

-- a field as a row of the table
abbrev pub row6_of : Field6 → Row
row6_of field = row field.name.now field.offset field.size

-- whether a field has a name
abbrev pub named : List ℕ → Row → Bool
named name field = bytes_eq field.name name

-- the place of a field, where the header is there
abbrev pub place6_in : List ℕ → Row → Option Place6
place6_in bytes field = option_map (λ at. record { at = at + field.offset; size = field.size }) (header6_of bytes)

-- the place of the field with a name
abbrev pub place6_by_name : List ℕ → List ℕ → Option Place6
place6_by_name bytes name = option_and_then (place6_in bytes) (find (named name) field6_table)
