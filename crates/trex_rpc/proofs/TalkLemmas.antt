-- How a session stands after the lines so far, and how it ends or stops there.
use Rattle.std.proofs.Common.{◌≡◌, ℕ, ◌+◌, ◌<◌, ◌≤◌, Bool, true, false, cond, nat_le, nat_lt, List, [], ◌∷◌, ◌++◌, length, take, Option, None, Some, Ok, Err, IfSome, if◌then◌else◌, refl, sym, ap, ◌∙◌, subst, arith, append_assoc, length-append}
use Rattle.std.proofs.KnownBytes.{Appends-nil}
use Rattle.std.proofs.Math.Seq.{take-length}
use Rattle.std.proofs.lemmas.Bool.Decides.{nat_tests}
use Rattle.std.proofs.lemmas.List.{append-nil, take-append-le}
use Rattle.std.specs.Io.KnownBytes.{prepend_known}
use Rattle.trex_io.specs.Texts.{Wrote, WrotePart, WrotePrefix}
use Rattle.trex_io.proofs.TextLemmas.{Wrote-after, WrotePart-after, WrotePart-longer}
use Rattle.trex_rpc.specs.declared.bound.Bound.{Bound}
use Rattle.trex_rpc.specs.declared.bound.Bound.TheVariants.{LineTooLong, TooMuch}
use Rattle.trex_rpc.specs.declared.bound.TheConstants.{MOST_BYTES}
use Rattle.trex_rpc.specs.declared.line_reader.LineFault.{LineFault}
use Rattle.trex_rpc.specs.declared.line_reader.LineFault.TheVariants.{Fault, Memory, TooLong}
use Rattle.trex_rpc.specs.declared.line_reader.TheConstants.{LONGEST_LINE}
use Rattle.trex_rpc.specs.declared.stop.Stop.TheVariants.{Bad}
use Rattle.trex_rpc.specs.declared.stop.Unanswered.{Unanswered}
use Rattle.trex_rpc.specs.declared.stop.Unanswered.TheVariants.{OutFault, NotesFault, Memory as NoMemory}
use Rattle.trex_rpc.specs.declared.judging.Judged.{Judged}
use Rattle.trex_rpc.specs.declared.judging.Judged.TheVariants.{Quits, Breaks, Goes}
use Rattle.trex_rpc.specs.Heard.{Heard, cut, heard, heard_from, is_end, is_quit, judged, piece_of, silence, unheard}
use Rattle.trex_rpc.specs.Lines.{GivesLine}
use Rattle.trex_rpc.specs.Table.{Table}
use Rattle.trex_rpc.specs.Talk.{Runs, along, captured, captures, replies, reply, table_of, tables}
use Rattle.trex_rpc.specs.Written.{Answered, Spoken, Stopped, stop_of}
use Rattle.trex_rpc.proofs.AlongLemmas.{along-append, tables-append}
use Rattle.trex_rpc.proofs.HeardLemmas.{heard_next, hears, hears_front}

-- lines that were heard, and what is heard after them
abbrev pub after : List (List ℕ) → Heard → Heard
after done h = record { lines = done ++ h.lines; broken = h.broken; rest = h.rest }

-- after some lines that were heard of an input, so many bytes, these bytes are to come
abbrev pub GoesOn : Option (List ℕ) → Option (List ℕ) → ℕ → List (List ℕ) → Type 0
GoesOn None ahead before done = Unit {0}
GoesOn (Some text) None before done = ⊥
GoesOn (Some text) (Some left) before done = heard text ≡ after done (heard_from before (cut left))

-- after some lines that were heard, this becomes of the next
abbrev pub Next : Option (List ℕ) → List ℕ → Option (List ℕ) → List (List ℕ) → Judged → List ℕ → Type 0
Next None kept left done j line = Unit {0}
Next (Some text) kept None done j line = ⊥
Next (Some text) kept (Some left) done j line = heard text ≡ after done (heard_next j line (kept ++ left))

-- at first no line was heard
pub GoesOn-first : (input : Option (List ℕ)) → GoesOn input (prepend_known [] input) 0 []
unfolding heard
GoesOn-first None = tt
GoesOn-first (Some text) = refl

-- the next line
pub Next-line : (input old : Option (List ℕ)) (kept : List ℕ) (left : Option (List ℕ)) (before : ℕ) (done : List (List ℕ)) (line : List ℕ) (ended : Bool)
    → GoesOn input old before done → GivesLine old (prepend_known kept left) line (Ok ended) → is_end line ended ≡ false
    → Next input kept left done (judged line ended before) line
Next-line None old kept left before done line ended goes gives more = tt
Next-line (Some text) None kept left before done line ended goes gives more = absurd goes
Next-line (Some text) (Some bytes) kept None before done line true goes gives more = absurd gives.0
Next-line (Some text) (Some bytes) kept None before done line false goes gives more = absurd gives.0
Next-line (Some text) (Some bytes) kept (Some left) before done line true goes gives more =
    goes ∙ ap (λ b. after done (heard_from before (cut b))) gives.0
    ∙ ap (after done) (hears line (kept ++ left) true before gives.1 gives.2 more (λ e. cc))
Next-line (Some text) (Some bytes) kept (Some left) before done line false goes gives more =
    goes ∙ ap (λ b. after done (heard_from before (cut b))) gives.0
    ∙ ap (after done) (hears line (kept ++ left) false before gives.1 gives.2 more (λ e. gives.3))

-- the same of the bytes of a line that was read, and of what was judged of it
pub Next-read : (input old : Option (List ℕ)) (kept : List ℕ) (left : Option (List ℕ)) (before : ℕ) (done : List (List ℕ)) (read line : List ℕ) (ended : Bool) (j : Judged)
    → GoesOn input old before done → GivesLine old (prepend_known kept left) read (Ok ended) → line ≡ read → is_end line ended ≡ false → j ≡ judged line ended before
    → Next input kept left done j line
Next-read input old kept left before done read line ended j goes gives same more is =
    subst (λ j. Next input kept left done j line) (sym is)
    (Next-line input old kept left before done line ended goes (subst (λ l. GivesLine old (prepend_known kept left) l (Ok ended)) (sym same) gives) more)

-- the lines of an input begin with those that were heard
abbrev pub BeginsWith : Option (List ℕ) → List (List ℕ) → Type 0
BeginsWith input done = IfSome input (λ text. (more : List (List ℕ)) × ((heard text).lines ≡ done ++ more))

pub BeginsWith-done : (input ahead : Option (List ℕ)) (before : ℕ) (done : List (List ℕ)) → GoesOn input ahead before done → BeginsWith input done
BeginsWith-done None ahead before done goes = tt
BeginsWith-done (Some text) None before done goes = absurd goes
BeginsWith-done (Some text) (Some left) before done goes = ((heard_from before (cut left)).lines, ap (λ (h : Heard). h.lines) goes)

pub BeginsWith-line : (input : Option (List ℕ)) (kept : List ℕ) (left : Option (List ℕ)) (done : List (List ℕ)) (total : ℕ) (line : List ℕ)
    → Next input kept left done (Goes total) line → BeginsWith input (done ++ line ∷ [])
BeginsWith-line None kept left done total line next = tt
BeginsWith-line (Some text) kept None done total line next = absurd next
BeginsWith-line (Some text) kept (Some left) done total line next =
    let h = heard_from total (cut (kept ++ left)) in
    (h.lines, ap (λ (h : Heard). h.lines) next ∙ sym (append_assoc done (line ∷ []) h.lines))

pub BeginsWith-quit : (input : Option (List ℕ)) (kept : List ℕ) (left : Option (List ℕ)) (done : List (List ℕ)) (line : List ℕ)
    → Next input kept left done Quits line → BeginsWith input (done ++ line ∷ [])
BeginsWith-quit None kept left done line next = tt
BeginsWith-quit (Some text) kept None done line next = absurd next
BeginsWith-quit (Some text) kept (Some left) done line next =
    ([], ap (λ (h : Heard). h.lines) next ∙ sym (append_assoc done (line ∷ []) []))

within : (m n : ℕ) → nat_lt m n ≡ false → n ≤ m
within m n test = grind (arith, nat_tests)

-- a line that is answered adds a byte at least, and stays within the bound
pub goes_on : (line : List ℕ) (ended : Bool) (before total : ℕ) → is_end line ended ≡ false → Goes total ≡ judged line ended before
    → (total ≤ MOST_BYTES) × (before < total)
goes_on line ended before total more goes =
    by_tests (is_quit line) (nat_lt MOST_BYTES (before + length (piece_of line ended))) refl (sym goes)
  where
    some_piece : (line : List ℕ) (ended : Bool) → is_end line ended ≡ false → 0 < length (piece_of line ended)
    some_piece line true more = omega (arith, length-append line (10 ∷ []))
    some_piece [] false more = absurd (let e : true ≡ false = more in cc)
    some_piece (b ∷ bs) false more = omega arith

    fits : nat_lt MOST_BYTES (before + length (piece_of line ended)) ≡ false → before + length (piece_of line ended) ≤ MOST_BYTES
    fits test = within MOST_BYTES (before + length (piece_of line ended)) test

    by_tests : (quits much : Bool) → nat_lt MOST_BYTES (before + length (piece_of line ended)) ≡ much
        → cond quits Quits (cond much Breaks (Goes (before + length (piece_of line ended)))) ≡ Goes total → (total ≤ MOST_BYTES) × (before < total)
    by_tests true much is goes = absurd (cc)
    by_tests false true is goes = absurd (cc)
    by_tests false false is goes =
        let same : before + length (piece_of line ended) ≡ total = cc in
        let some = some_piece line ended more in
        let least = fits is in
        (omega arith, omega arith)

-- a text is a front of itself and what follows
take-front : {X : Type 0} (xs ys : List X) → take (length xs) (xs ++ ys) ≡ xs
take-front xs ys = take-append-le (length xs) xs ys (omega arith) ∙ take-length xs

module _ {K : Type 0} (held : K → Option (List ℕ)) (old mid new : K) (text : Table → List ℕ → List ℕ) where
  -- what lines wrote is a prefix of what they write with others
  wrote_front : (lines done more : List (List ℕ)) → lines ≡ done ++ more → Wrote held old new (along text [] done) → WrotePrefix held old new (along text [] lines)
  wrote_front lines done more is wrote =
      let n = length (along text [] done) in
      let split = ap (λ ls. take n (along text [] ls)) is ∙ ap (take n) (along-append text [] done more) ∙ take-front (along text [] done) (along text (tables [] done) more) in
      (n, subst (Wrote held old new) (sym split) wrote)

  -- what one line more writes
  along-more : (done : List (List ℕ)) (line : List ℕ) → along text [] (done ++ line ∷ []) ≡ along text [] done ++ text (tables [] done) line
  along-more done line = along-append text [] done (line ∷ []) ∙ ap (λ l. along text [] done ++ l) (append-nil (text (tables [] done) line))

  wrote_more : (done : List (List ℕ)) (line : List ℕ) (table : Table) → table ≡ tables [] done → Wrote held old mid (along text [] done) → Wrote held mid new (text table line)
      → Wrote held old new (along text [] (done ++ line ∷ []))
  wrote_more done line table is first next =
      subst (Wrote held old new) (sym (along-more done line))
      (Wrote-after held old mid new (along text [] done) (text (tables [] done) line) first (subst (λ t. Wrote held mid new (text t line)) is next))

  -- a part of what one line more writes
  part_more : (lines done more : List (List ℕ)) (line : List ℕ) (table : Table) → lines ≡ (done ++ line ∷ []) ++ more → table ≡ tables [] done
      → Wrote held old mid (along text [] done) → WrotePart held mid new (text table line) → WrotePart held old new (along text [] lines)
  part_more lines done more line table lines_are is first next =
      let part = WrotePart-after held old mid new (along text [] done) (text (tables [] done) line) first (subst (λ t. WrotePart held mid new (text t line)) is next) in
      let longer = WrotePart-longer held old new (along text [] (done ++ line ∷ [])) (along text (tables [] (done ++ line ∷ [])) more)
      (subst (WrotePart held old new) (sym (along-more done line)) part) in
      subst (WrotePart held old new) (sym (ap (along text []) lines_are ∙ along-append text [] (done ++ line ∷ []) more)) longer

module _ {O N : Type 0} (runs : Runs) (held : O → Option (List ℕ)) (told : N → Option (List ℕ)) (out : O) (notes : N) where
  -- What was done so far is what these lines say.
  pub record SoFar (input ahead : Option (List ℕ)) (before number : ℕ) (session : Table) (out' : O) (notes' : N) : Type 0 where
    pub done : List (List ℕ)
    pub goes_on : GoesOn input ahead before done
    pub table : session ≡ tables [] done
    pub count : number ≡ length done
    pub captured_all : Wrote held out out' (captures runs done)
    pub replied_all : Wrote told notes notes' (replies runs done)

  -- nothing was done yet
  pub SoFar-first : (input : Option (List ℕ)) → SoFar input (prepend_known [] input) 0 0 [] out notes
  SoFar-first input = record { done = []; goes_on = GoesOn-first input; table = refl; count = refl; captured_all = Appends-nil (held out); replied_all = Appends-nil (told notes) }

  -- no more is heard: all that was heard was done
  silent : (text : List ℕ) (bound : Option Bound) (done : List (List ℕ)) → heard text ≡ after done (silence bound) → (heard text).lines ≡ done
  silent text bound done is = ap (λ (h : Heard). h.lines) is ∙ append-nil done

  -- a bound is broken
  breaks : (text : List ℕ) (bound : Bound) (ahead : Option (List ℕ)) (before number : ℕ) (session : Table) (out' : O) (notes' : N) (s : SoFar (Some text) ahead before number session out' notes')
      → heard text ≡ after s.done (silence (Some bound)) → Stopped runs held told out out' notes notes' (heard text) (Bad bound (number + 1))
  breaks text bound ahead before number session out' notes' s is =
      let lines = silent text (Some bound) s.done is in (
        ap (λ (h : Heard). h.broken) is,
        ap (λ n. n + 1) (s.count ∙ ap length (sym lines)),
        subst (λ ls. Wrote held out out' (captures runs ls)) (sym lines) s.captured_all,
        subst (λ ls. Wrote told notes notes' (replies runs ls)) (sym lines) s.replied_all,
      )

  pub stops_much : (input old : Option (List ℕ)) (kept : List ℕ) (left : Option (List ℕ)) (before number : ℕ) (session : Table) (out' : O) (notes' : N) (line : List ℕ)
      (s : SoFar input old before number session out' notes') → Next input kept left s.done Breaks line
      → IfSome input (λ text. Stopped runs held told out out' notes notes' (heard text) (Bad TooMuch (number + 1)))
  stops_much None old kept left before number session out' notes' line s next = tt
  stops_much (Some text) old kept None before number session out' notes' line s next = absurd next
  stops_much (Some text) old kept (Some left) before number session out' notes' line s next = breaks text TooMuch old before number session out' notes' s next

  -- memory ran out, or an end failed, before a line was read
  stops_reading : (text : List ℕ) (done more : List (List ℕ)) (out' : O) (notes' : N) → (heard text).lines ≡ done ++ more
      → Wrote held out out' (captures runs done) → Wrote told notes notes' (replies runs done)
      → WrotePrefix held out out' (captures runs (heard text).lines) × WrotePrefix told notes notes' (replies runs (heard text).lines)
  stops_reading text done more out' notes' lines captured_all replied_all =
      (wrote_front held out out out' (captured runs) (heard text).lines done more lines captured_all, wrote_front told notes notes notes' (reply runs) (heard text).lines done more lines replied_all)

  stops_memory : (text : List ℕ) (done more : List (List ℕ)) (out' : O) (notes' : N) → (heard text).lines ≡ done ++ more
      → Wrote held out out' (captures runs done) → Wrote told notes notes' (replies runs done)
      → ((n : ℕ) × Wrote held out out' (captures runs (take n (heard text).lines))) × WrotePrefix told notes notes' (replies runs (heard text).lines)
  stops_memory text done more out' notes' lines captured_all replied_all = (
    (length done, subst (λ ls. Wrote held out out' (captures runs ls)) (sym (ap (take (length done)) lines ∙ take-front done more)) captured_all),
    wrote_front told notes notes notes' (reply runs) (heard text).lines done more lines replied_all,
  )

  -- no line was read
  pub stops_unheard : (input old new : Option (List ℕ)) (before number : ℕ) (session : Table) (out' : O) (notes' : N) (line : List ℕ) (fault : LineFault)
      → SoFar input old before number session out' notes' → GivesLine old new line (Err fault)
      → IfSome input (λ text. Stopped runs held told out out' notes notes' (heard text) (unheard fault before (number + 1)))
  stops_unheard None old new before number session out' notes' line f s gives = tt
  stops_unheard (Some text) None new before number session out' notes' line f s gives = absurd s.goes_on
  stops_unheard (Some text) (Some bytes) new before number session out' notes' line Fault s gives =
      let (more, lines) = BeginsWith-done (Some text) (Some bytes) before s.done s.goes_on in
      stops_reading text s.done more out' notes' lines s.captured_all s.replied_all
  stops_unheard (Some text) (Some bytes) new before number session out' notes' line Memory s gives =
      let (more, lines) = BeginsWith-done (Some text) (Some bytes) before s.done s.goes_on in
      stops_memory text s.done more out' notes' lines s.captured_all s.replied_all
  stops_unheard (Some text) (Some bytes) None before number session out' notes' line TooLong s gives = absurd gives.1
  stops_unheard (Some text) (Some bytes) (Some rest) before number session out' notes' line TooLong s gives =
      let (more, taken, free, long) = gives in
      let bound : Bound = if nat_le (before + LONGEST_LINE) MOST_BYTES then LineTooLong else TooMuch in
      let is = s.goes_on ∙ ap (λ b. after s.done (heard_from before (cut b))) (taken ∙ append_assoc line more rest) ∙ ap (after s.done) (hears_front line (more ++ rest) before free long) in
      breaks text bound (Some bytes) before number session out' notes' s is

  -- a line was answered
  pub SoFar-more : (input old : Option (List ℕ)) (kept : List ℕ) (left : Option (List ℕ)) (before total number : ℕ) (session session' : Table) (out' out'' : O) (notes' notes'' : N) (line : List ℕ)
      (s : SoFar input old before number session out' notes') → Next input kept left s.done (Goes total) line → session' ≡ table_of session line
      → Wrote held out' out'' (captured runs session line) → Wrote told notes' notes'' (reply runs session line)
      → SoFar input (prepend_known kept left) total (number + 1) session' out'' notes''
  SoFar-more input old kept left before total number session session' out' out'' notes' notes'' line s next table captured_all replied_all = record {
    done = s.done ++ line ∷ [];
    goes_on = goes_more input left next;
    table = table ∙ ap (λ t. table_of t line) s.table ∙ sym (tables-append [] s.done (line ∷ []));
    count = let count = s.count in omega (arith, length-append s.done (line ∷ []));
    captured_all = wrote_more held out out' out'' (captured runs) s.done line session s.table s.captured_all captured_all;
    replied_all = wrote_more told notes notes' notes'' (reply runs) s.done line session s.table s.replied_all replied_all;
  }
    where
      goes_more : (input left : Option (List ℕ)) → Next input kept left s.done (Goes total) line → GoesOn input (prepend_known kept left) total (s.done ++ line ∷ [])
      goes_more None left next = tt
      goes_more (Some text) None next = absurd next
      goes_more (Some text) (Some left) next =
          let h = heard_from total (cut (kept ++ left)) in
          next ∙ ap (λ ls. record { lines = ls; broken = h.broken; rest = h.rest }) (sym (append_assoc s.done (line ∷ []) h.lines))

  -- `quit` was answered
  pub quits : (input old : Option (List ℕ)) (kept : List ℕ) (left : Option (List ℕ)) (before number : ℕ) (session : Table) (out' out'' : O) (notes' notes'' : N) (line : List ℕ)
      (s : SoFar input old before number session out' notes') → Next input kept left s.done Quits line
      → Wrote held out' out'' (captured runs session line) → Wrote told notes' notes'' (reply runs session line)
      → IfSome input (λ text. Spoken runs held told out out'' notes notes'' (heard text) left)
  quits None old kept left before number session out' out'' notes' notes'' line s next captured_all replied_all = tt
  quits (Some text) old kept None before number session out' out'' notes' notes'' line s next captured_all replied_all = absurd next
  quits (Some text) old kept (Some left) before number session out' out'' notes' notes'' line s next captured_all replied_all =
      let lines = ap (λ (h : Heard). h.lines) next in
      record {
        unbroken = ap (λ (h : Heard). h.broken) next;
        captured_all = subst (λ ls. Wrote held out out'' (captures runs ls)) (sym lines) (wrote_more held out out' out'' (captured runs) s.done line session s.table s.captured_all captured_all);
        replied_all = subst (λ ls. Wrote told notes notes'' (replies runs ls)) (sym lines) (wrote_more told notes notes' notes'' (reply runs) s.done line session s.table s.replied_all replied_all);
        read = (kept, ap (λ (h : Heard). h.rest) next);
      }

  -- a line wasn't answered
  pub stops_answering : (faults : O → ℕ) (count : N → ℕ) (input old : Option (List ℕ)) (before number : ℕ) (session : Table) (out' out'' : O) (notes' notes'' : N) (line : List ℕ) (fault : Unanswered)
      (s : SoFar input old before number session out' notes') → BeginsWith input (s.done ++ line ∷ [])
      → Answered held faults told count out' out'' notes' notes'' (captured runs session line) (reply runs session line) (Err fault)
      → IfSome input (λ text. Stopped runs held told out out'' notes notes'' (heard text) (stop_of fault))
  stops_answering faults count None old before number session out' out'' notes' notes'' line fault s begins answered = tt
  stops_answering faults count (Some text) old before number session out' out'' notes' notes'' line OutFault s (more, lines) (part, rises, same) = (
    part_more held out out' out'' (captured runs) (heard text).lines s.done more line session lines s.table s.captured_all part,
    subst (λ k. WrotePrefix told notes k (replies runs (heard text).lines)) (sym same)
        (wrote_front told notes notes notes' (reply runs) (heard text).lines s.done (line ∷ more) (lines ∙ append_assoc s.done (line ∷ []) more) s.replied_all),
  )
  stops_answering faults count (Some text) old before number session out' out'' notes' notes'' line NotesFault s (more, lines) (whole, part, rises) = (
    wrote_front held out out out'' (captured runs) (heard text).lines (s.done ++ line ∷ []) more lines (wrote_more held out out' out'' (captured runs) s.done line session s.table s.captured_all whole),
    part_more told notes notes' notes'' (reply runs) (heard text).lines s.done more line session lines s.table s.replied_all part,
  )
  stops_answering faults count (Some text) old before number session out' out'' notes' notes'' line NoMemory s (more, lines) (same_out, same_notes) =
      subst (λ k. ((n : ℕ) × Wrote held out k (captures runs (take n (heard text).lines))) × WrotePrefix told notes notes'' (replies runs (heard text).lines)) (sym same_out)
      (subst (λ k. ((n : ℕ) × Wrote held out out' (captures runs (take n (heard text).lines))) × WrotePrefix told notes k (replies runs (heard text).lines)) (sym same_notes)
      (stops_memory text s.done (line ∷ more) out' notes' (lines ∙ append_assoc s.done (line ∷ []) more) s.captured_all s.replied_all))
