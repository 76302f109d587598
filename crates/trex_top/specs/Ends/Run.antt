-- How a run ends: what holds at each status. Own.
use Rattle.std.specs.Prelude.{List, Ok}
use Rattle.trex_profile.specs.Stream.{Stream}
use Rattle.trex_words.specs.declared.asked.RunAsk.{RunAsk}
use Rattle.trex_top.specs.declared.status.Status.{Status}
use Rattle.trex_top.specs.declared.status.Status.TheVariants.{Done, Refused, ReadFault, OutFault, NotesFault, Memory}
use Rattle.trex_run.specs.Capture.{capture, report, sequence}
use Rattle.trex_top.specs.Rows.{HasVerdict, BreaksRule, CannotRead, CannotWrite, NoMemory}
use Rattle.trex_top.specs.Sides.{Side, GateSide, Failed, given, AtEnd, Got, GotPart, Unentered, Rounds, EnoughRounds}

module _ {S O N G : Type 0} where
  abbrev pub RunEnds : RunAsk → Side S → Side O → Side N → GateSide G → Status → Type 0
  -- the whole capture and the whole report
  RunEnds ask input out notes gates Done =
      (p : List Stream) × HasVerdict (given input) (Ok p) × AtEnd input
      × Got out (capture p ask) × Got notes (report p ask) × EnoughRounds gates ask.cores (sequence p ask)
  -- the line of the first broken rule
  RunEnds ask input out notes gates Refused = BreaksRule input out notes × Unentered gates
  RunEnds ask input out notes gates ReadFault = CannotRead input out notes × Unentered gates
  -- a part of the capture
  RunEnds ask input out notes gates OutFault =
      (p : List Stream) × HasVerdict (given input) (Ok p) × CannotWrite out notes (capture p ask) × Rounds gates ask.cores
  -- the whole capture and a part of the report
  RunEnds ask input out notes gates NotesFault =
      (p : List Stream) × HasVerdict (given input) (Ok p)
      × Got out (capture p ask) × Failed notes × GotPart notes (report p ask) × EnoughRounds gates ask.cores (sequence p ask)
  -- memory is taken before the first byte
  RunEnds ask input out notes gates Memory = NoMemory out notes × Unentered gates
  -- no other status comes
  RunEnds ask input out notes gates _ = ⊥
