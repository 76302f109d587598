-- The Internet checksum.
use Rattle.std.specs.Prelude.{◌≡◌, ◌==◌, ℕ, ◌+◌, ◌-◌, ◌*◌, ◌%◌, List, [], ◌∷◌, slice_index, if◌then◌else◌}

-- the plain sum of the 16-bit big-endian words, an odd last byte padded with zero on the right (RFC 1071, section 1)
abbrev pub sum_of : List ℕ → ℕ
sum_of [] = 0
sum_of (x ∷ []) = 256 * x
sum_of (x ∷ y ∷ rest) = (256 * x + y) + sum_of rest

-- the 16-bit big-endian word at a place
abbrev pub word_at : List ℕ → ℕ → ℕ
word_at bytes place = 256 * slice_index bytes place + slice_index bytes (place + 1)

-- the ones' complement fold of a sum into 16 bits, which is 0 only for 0 (RFC 1071, section 1)
unfoldable pub fold_of : ℕ → ℕ
fold_of s = if s == 0 then 0 else 1 + (s - 1) % 65535

-- the sum folds to all ones, so the checksum among the summed words is right (RFC 1071, section 1)
abbrev pub Verifies : ℕ → Type 0
Verifies sum = fold_of sum ≡ 65535

-- the checksum of some bytes: the complement of their folded sum (RFC 1071, section 1)
abbrev pub checksum_of : List ℕ → ℕ
checksum_of bytes = 65535 - fold_of (sum_of bytes)

-- a UDP checksum as it is written: one that comes out as zero is all ones, since zero stands for none (RFC 768)
abbrev pub ones_for_zero : ℕ → ℕ
ones_for_zero n = if n == 0 then 65535 else n
