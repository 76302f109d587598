-- What is heard of an input, line by line.
use Rattle.std.proofs.Common.{◌≡◌, ℕ, ◌+◌, ◌<◌, ◌≤◌, Bool, true, false, List, [], ◌∷◌, ◌++◌, length, codes, None, Some, nat_lt, nat_le, cond, if◌then◌else◌, refl, ap, arith}
use Rattle.std.proofs.lemmas.Bool.Decides.{nat_tests}
use Rattle.std.proofs.lemmas.Slice.Eq.{bytes_eq-Decides}
use Rattle.trex_rpc.specs.declared.bound.Bound.TheVariants.{LineTooLong, TooMuch}
use Rattle.trex_rpc.specs.declared.bound.TheConstants.{MOST_BYTES}
use Rattle.trex_rpc.specs.declared.line_reader.TheConstants.{LONGEST_LINE}
use Rattle.trex_rpc.specs.declared.judging.Judged.{Judged}
use Rattle.trex_rpc.specs.declared.judging.Judged.TheVariants.{Quits, Breaks, Goes}
use Rattle.trex_rpc.specs.Heard.{Heard, cut, heard_from, heard_line, is_end, is_quit, judged, line_of, piece_of, silence}
use Rattle.trex_rpc.specs.Lines.{NoFeed}
use Rattle.trex_rpc.proofs.PieceLemmas.{concat-cut, cut-front, cut-piece, line_of-piece}

-- what is heard from a line on, by what becomes of it; the rest is to come after it
abbrev pub heard_next : Judged → List ℕ → List ℕ → Heard
heard_next Quits line rest = record { lines = line ∷ []; broken = None; rest = rest }
heard_next Breaks line rest = silence (Some TooMuch)
heard_next (Goes total) line rest = heard_line None line (heard_from total (cut rest))

test_false : (m n : ℕ) → n ≤ m → nat_lt m n ≡ false
test_false m n most = grind (arith, nat_tests)

test_true : (m n : ℕ) → m < n → nat_lt m n ≡ true
test_true m n less = grind (arith, nat_tests)

not_within : (m n : ℕ) → nat_le m n ≡ false → n < m
not_within m n test = grind (arith, nat_tests)

-- a piece whose line is within its bound
hears_piece : (piece line : List ℕ) (before : ℕ) (rest : List ℕ) → line_of piece ≡ line → length line ≤ LONGEST_LINE
    → heard_from before (piece ∷ cut rest)
    ≡ heard_next (if is_quit line then Quits else (if nat_lt MOST_BYTES (before + length piece) then Breaks else Goes (before + length piece))) line rest
hears_piece piece line before rest is short =
    rw (is, test_false LONGEST_LINE (length line) short, concat-cut rest)
    (by_tests (is_quit line) (nat_lt MOST_BYTES (before + length piece)))
  where
    total : ℕ
    total = before + length piece

    by_tests : (quits much : Bool) → cond quits (record { lines = line ∷ []; broken = None; rest = rest })
        (heard_line (cond much (Some TooMuch) None) line (heard_from (before + length piece) (cut rest)))
        ≡ heard_next (cond quits Quits (cond much Breaks (Goes (before + length piece)))) line rest
    by_tests true much = refl
    by_tests false true = refl
    by_tests false false = refl

-- a line that was read is heard next
pub hears : (line rest : List ℕ) (ended : Bool) (before : ℕ) → NoFeed line → length line ≤ LONGEST_LINE → is_end line ended ≡ false → (ended ≡ false → rest ≡ [])
    → heard_from before (cut (piece_of line ended ++ rest)) ≡ heard_next (judged line ended before) line rest
hears line rest ended before free short more last =
    rw (cut-piece line rest ended free more last) (hears_piece (piece_of line ended) line before rest (line_of-piece line ended free) short)

-- a line longer than `quit` is another
other_line : (line : List ℕ) → 4 < length line → is_quit line ≡ false
other_line line long = by_test (is_quit line) (bytes_eq-Decides line (codes "quit")).0
  where
    by_test : (t : Bool) → (t ≡ true → line ≡ codes "quit") → t ≡ false
    by_test true same = absurd (let four : length line ≡ 4 = ap length (same refl) in omega arith)
    by_test false same = refl

-- a piece whose line is too long
hears_long : (piece : List ℕ) (pieces : List (List ℕ)) (before : ℕ) → LONGEST_LINE < length (line_of piece) → length (line_of piece) ≤ length piece
    → heard_from before (piece ∷ pieces) ≡ silence (Some (if nat_le (before + LONGEST_LINE) MOST_BYTES then LineTooLong else TooMuch))
hears_long piece pieces before long whole =
    rw (other_line (line_of piece) (omega arith), test_true LONGEST_LINE (length (line_of piece)) long)
    (by_room (nat_le (before + LONGEST_LINE) MOST_BYTES) refl)
  where
    by_room : (room : Bool) → nat_le (before + LONGEST_LINE) MOST_BYTES ≡ room
        → heard_line (cond room (Some LineTooLong) (cond (nat_lt MOST_BYTES (before + length piece)) (Some TooMuch) None)) (line_of piece) (heard_from (before + length piece) pieces)
        ≡ silence (Some (cond room LineTooLong TooMuch))
    by_room true is = refl
    by_room false is = let past = not_within (before + LONGEST_LINE) MOST_BYTES is in rw (test_true MOST_BYTES (before + length piece) (omega arith))

-- the front of a line that is too long breaks a bound
pub hears_front : (line more : List ℕ) (before : ℕ) → NoFeed line → LONGEST_LINE < length line
    → heard_from before (cut (line ++ more)) ≡ silence (Some (if nat_le (before + LONGEST_LINE) MOST_BYTES then LineTooLong else TooMuch))
hears_front [] more before free long = absurd (omega arith)
hears_front (b ∷ bs) more before free long =
    let front = cut-front b bs more free in
    let longer = front.long in
    rw front.cuts (hears_long front.piece front.pieces before (omega arith) front.whole)
