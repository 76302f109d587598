-- Lines of an input, as they are given one after another. Own.
use Rattle.std.specs.Prelude.{◌≡◌, ℕ, ◌<◌, ◌≤◌, ◌==◌, Bool, true, false, List, [], ◌∷◌, ◌++◌, length, slice_index, take, Option, Result, Ok, Err}
use Rattle.std.specs.List.{list_any}
use Rattle.std.specs.Io.KnownBytes.{prepend_known, Consumes, IsAtEnd}
use Rattle.trex_rpc.specs.declared.line_reader.LineFault.{LineFault}
use Rattle.trex_rpc.specs.declared.line_reader.LineFault.TheVariants.{Fault, Memory, TooLong}
use Rattle.trex_rpc.specs.declared.line_reader.TheConstants.{LONGEST_LINE}

-- a line feed (ASCII)
abbrev pub is_feed : ℕ → Bool
is_feed b = b == 10

-- no byte is a line feed
abbrev pub NoFeed : List ℕ → Type 0
NoFeed bytes = list_any is_feed bytes ≡ false

-- the place of the first line feed
abbrev pub IsFirstFeed : List ℕ → ℕ → Type 0
IsFirstFeed bytes at = (at < length bytes) × (slice_index bytes at ≡ 10) × NoFeed (take at bytes)

-- the bytes that are still to come: those that a reader keeps, and those that its source has left
abbrev pub ahead : {K : Type 0} → (K → Option (List ℕ)) → List ℕ → K → Option (List ℕ)
ahead left kept source = prepend_known kept (left source)

-- what is moved from the kept bytes to the end of a line: all up to a line feed, or all
abbrev pub TakesFront : List ℕ → List ℕ → List ℕ → List ℕ → Bool → Type 0
TakesFront kept kept' line line' true = (front : List ℕ) × (kept ≡ front ++ 10 ∷ kept') × (line' ≡ line ++ front) × NoFeed front
TakesFront kept kept' line line' false = (kept' ≡ []) × (line' ≡ line ++ kept) × NoFeed kept

-- What a call gives of the bytes that are to come: a line that a line feed ended, the rest without one, or the front of a line that is
-- too long.
abbrev pub GivesLine : Option (List ℕ) → Option (List ℕ) → List ℕ → Result Bool LineFault → Type 0
GivesLine old new line (Ok true) = Consumes old new (line ++ 10 ∷ []) × NoFeed line × (length line ≤ LONGEST_LINE)
GivesLine old new line (Ok false) = Consumes old new line × NoFeed line × (length line ≤ LONGEST_LINE) × IsAtEnd new
GivesLine old new line (Err TooLong) = (more : List ℕ) × Consumes old new (line ++ more) × NoFeed line × (LONGEST_LINE < length line)
GivesLine old new line (Err Fault) = Unit {0}
GivesLine old new line (Err Memory) = Unit {0}
