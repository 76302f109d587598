-- Lines on whose failing nothing hangs.
use Rattle.std.proofs.Common.{ℕ, ◌≤◌, ◌++◌, List, take, Option, Result, Ok, Err, length, subst, sym, arith}
use Rattle.std.proofs.lemmas.List.{take_all}
use Rattle.trex_io.specs.Faults.{Rises}
use Rattle.trex_io.specs.Texts.{Wrote, Writes}
use Rattle.trex_io.proofs.FaultLemmas.{Rises-after}
use Rattle.trex_io.proofs.TextLemmas.{Wrote-after}
use Rattle.trex_top.specs.Sides.{Tells, TellsAfter}

-- a call that writes a line tells it
pub Tells-from_Writes : {K T E : Type 0} (held : K → Option (List ℕ)) (faults : K → ℕ) (old new : K) (result : Result T E) (line : List ℕ)
    → Writes held faults old new result line → Tells held faults old new line
Tells-from_Writes held faults old new (Ok x) line writes =
    record { prefix = (length line, subst (Wrote held old new) (sym (take_all (length line) line (omega arith))) writes.whole); whole = λ calm. writes.whole }
Tells-from_Writes held faults old new (Err e) line writes =
    record { prefix = (writes.part.0, writes.part.2); whole = λ calm. absurd (calm writes.cause.failed) }

-- a text that was written, and then a line that is told
pub TellsAfter-line : {K : Type 0} (held : K → Option (List ℕ)) (faults : K → ℕ) (old mid new : K) (text line : List ℕ)
    → Wrote held old mid text → faults old ≤ faults mid → Tells held faults mid new line → TellsAfter held faults old new text line
TellsAfter-line held faults old mid new text line wrote later tells = record {
  prefix = (tells.prefix.0, Wrote-after held old mid new text (take tells.prefix.0 line) wrote tells.prefix.1);
  whole = λ calm. Wrote-after held old mid new text line wrote (tells.whole (λ rises. calm (Rises-after faults old mid new later rises)));
}
