-- What was written is of a capture that makes a profile.
use Rattle.std.proofs.Common.{◌≡◌, ℕ, List, Option, Some, None, Result, Ok, Err, refl}
use Rattle.trex_import.specs.Answers.{ImportAnswers}
use Rattle.trex_import.specs.declared.fault.ImportFault.{ImportFault}
use Rattle.trex_import.specs.declared.fault.ImportFault.TheVariants.{Out}
use Rattle.trex_import.specs.Fit.{unfit_of}
use Rattle.trex_io.specs.Seen.{Seen}
use Rattle.trex_measure.specs.Measured.{IfCapture, OnCapture}
use Rattle.trex_top.proofs.commands.import.import.Goals as goal

-- where an answer comes for fit records alone, the records are fit
fit : (text : Option (List ℕ)) (P : List Seen → Type 0) (answer : Result (Unit {0}) ImportFault)
    → ((rs : List Seen) → ImportAnswers answer rs None → unfit_of rs ≡ None)
    → OnCapture text P → IfCapture text (ImportAnswers answer) → OnCapture text (λ rs. (unfit_of rs ≡ None) × P rs)
fit None P answer fits on exact = tt
fit (Some text) P answer fits (rs, is, holds) exact = (rs, is, (fits rs (exact rs None is), holds))

pub returns-in-Ok : goal.returns-in-Ok
returns-in-Ok g c =
    let left = g.S.Source.left c.args.input.now in
    (fit left _ (Ok tt) (λ rs is. is) c.in-Ok.ensures.done c.in-Ok.ensures.exact, c.in-Ok.ensures.end, refl)

pub returns-in-Err-Out : goal.returns-in-Err-Out
returns-in-Err-Out g c =
    let left = g.S.Source.left c.args.input.now in
    let stops = rw c.in-Err-Out.field-0-is at c.in-Err-Out.ensures.stops in
    let exact = rw c.in-Err-Out.field-0-is at c.in-Err-Out.ensures.exact in
    (fit left _ (Err Out) (λ rs is. is) stops.0 exact, stops.2, c.tell-in-Err-Out.ensures)
