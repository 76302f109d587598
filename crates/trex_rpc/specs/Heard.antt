-- What is heard of an input: its lines, up to `quit` or to the line that breaks a bound. Own.
use Rattle.std.specs.Prelude.{ℕ, ◌+◌, ◌&&◌, Bool, true, false, not, List, [], ◌∷◌, ◌++◌, length, nat_eq, codes, Option, None, Some, if◌then◌else◌, nat_lt, nat_le}
use Rattle.std.specs.List.{concat}
use Rattle.std.specs.Str.{bytes_eq}
use Rattle.trex_rpc.specs.declared.bound.Bound.{Bound}
use Rattle.trex_rpc.specs.declared.bound.Bound.TheVariants.{LineTooLong, TooMuch}
use Rattle.trex_rpc.specs.declared.bound.TheConstants.{MOST_BYTES}
use Rattle.trex_rpc.specs.declared.line_reader.LineFault.{LineFault}
use Rattle.trex_rpc.specs.declared.line_reader.LineFault.TheVariants.{Fault, Memory, TooLong}
use Rattle.trex_rpc.specs.declared.line_reader.TheConstants.{LONGEST_LINE}
use Rattle.trex_rpc.specs.declared.stop.Stop.{Stop}
use Rattle.trex_rpc.specs.declared.stop.Stop.TheVariants.{ReadFault, Memory as NoMemory, Bad}
use Rattle.trex_rpc.specs.declared.judging.Judged.{Judged}
use Rattle.trex_rpc.specs.declared.judging.Judged.TheVariants.{Quits, Breaks, Goes}
use Rattle.trex_rpc.specs.Lines.{is_feed}

-- a byte before the first of these pieces
abbrev pub grow : ℕ → List (List ℕ) → List (List ℕ)
grow b [] = (b ∷ []) ∷ []
grow b (piece ∷ pieces) = (b ∷ piece) ∷ pieces

-- a text cut after each line feed
abbrev pub cut : List ℕ → List (List ℕ)
cut [] = []
cut (b ∷ bs) = if is_feed b then (b ∷ []) ∷ cut bs else grow b (cut bs)

-- the line of a piece: what stands before its line feed
abbrev pub line_of : List ℕ → List ℕ
line_of [] = []
line_of (b ∷ bs) = if is_feed b then [] else b ∷ line_of bs

-- the line that ends a session
abbrev pub is_quit : List ℕ → Bool
is_quit line = bytes_eq line (codes "quit")

-- what is heard
pub record Heard : Type 0 where
  -- the lines, a `quit` among them
  pub lines : List (List ℕ)
  -- the bound that the next line breaks
  pub broken : Option Bound
  -- what follows the line `quit`
  pub rest : List ℕ

-- nothing more is heard: the input ended, or its next line breaks a bound
abbrev pub silence : Option Bound → Heard
silence bound = record { lines = []; broken = bound; rest = [] }

-- The bound that a piece breaks, where so many bytes came before it. The first byte that breaks one decides, and of two that it breaks
-- the line's.
abbrev pub bound_of : ℕ → List ℕ → Option Bound
bound_of before piece =
    if nat_lt LONGEST_LINE (length (line_of piece)) && nat_le (before + LONGEST_LINE) MOST_BYTES then Some LineTooLong
    else (if nat_lt MOST_BYTES (before + length piece) then Some TooMuch else None)

-- a line and what is heard after it, unless it breaks a bound
abbrev pub heard_line : Option Bound → List ℕ → Heard → Heard
heard_line (Some bound) line after = silence (Some bound)
heard_line None line after = record { lines = line ∷ after.lines; broken = after.broken; rest = after.rest }

-- what is heard of these pieces, where so many bytes came before them; the bounds speak of what comes before `quit`
abbrev pub heard_from : ℕ → List (List ℕ) → Heard
heard_from before [] = silence None
heard_from before (piece ∷ pieces) =
    if is_quit (line_of piece) then record { lines = line_of piece ∷ []; broken = None; rest = concat pieces }
    else heard_line (bound_of before piece) (line_of piece) (heard_from (before + length piece) pieces)

-- what is heard of an input
unfoldable pub heard : List ℕ → Heard
heard input = heard_from 0 (cut input)

-- nothing was read, since the input is at its end
abbrev pub is_end : List ℕ → Bool → Bool
is_end line ended = nat_eq (length line) 0 && not ended

-- the piece of a line, which a line feed ended or not
abbrev pub piece_of : List ℕ → Bool → List ℕ
piece_of line true = line ++ 10 ∷ []
piece_of line false = line

-- what becomes of a line that is within its bound, where so many bytes came before it
abbrev pub judged : List ℕ → Bool → ℕ → Judged
judged line ended before =
    if is_quit line then Quits
    else (if nat_lt MOST_BYTES (before + length (piece_of line ended)) then Breaks else Goes (before + length (piece_of line ended)))

-- why a session stops where no line was read
abbrev pub unheard : LineFault → ℕ → ℕ → Stop
unheard Fault before line = ReadFault
unheard Memory before line = NoMemory
unheard TooLong before line = Bad (if nat_le (before + LONGEST_LINE) MOST_BYTES then LineTooLong else TooMuch) line
