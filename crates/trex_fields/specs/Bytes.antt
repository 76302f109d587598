-- Bytes written in the place of others, and the sizes of the numbers that a packet holds. Own definitions: the numbers' bytes themselves are
-- byteorder's.
use Rattle.std.specs.Prelude.{◌≡◌, ℕ, ◌+◌, ◌⊎◌, List, ◌++◌, length, take, drop}

-- the bytes with others in their place from `at` on
unfoldable pub put : ℕ → List ℕ → List ℕ → List ℕ
put at new bytes = take at bytes ++ (new ++ drop (at + length new) bytes)

-- a number of a packet has 1, 2, 4 or 8 bytes
abbrev pub IsSize : ℕ → Type 0
IsSize n = (n ≡ 1) ⊎ ((n ≡ 2) ⊎ ((n ≡ 4) ⊎ (n ≡ 8)))
