-- How a sample ends: what holds at each status. Own.
use Rattle.trex_words.specs.declared.asked.SampleAsk.{SampleAsk}
use Rattle.trex_top.specs.declared.status.Status.{Status}
use Rattle.trex_top.specs.declared.status.Status.TheVariants.{Done, OutFault, Memory}
use Rattle.trex_top.specs.Rows.{CannotWrite, NoMemory}
use Rattle.trex_top.specs.Sample.{sample_sequence, sample_text}
use Rattle.trex_top.specs.Sides.{Side, GateSide, Kept, Got, Unentered, Rounds, EnoughRounds}

module _ {O N G : Type 0} where
  abbrev pub SampleEnds : SampleAsk → Side O → Side N → GateSide G → Status → Type 0
  -- the whole line
  SampleEnds ask out notes gates Done = Got out (sample_text ask) × Kept notes × EnoughRounds gates ask.run.cores (sample_sequence ask)
  -- a part of the line
  SampleEnds ask out notes gates OutFault = CannotWrite out notes (sample_text ask) × Rounds gates ask.run.cores
  SampleEnds ask out notes gates Memory = NoMemory out notes × Unentered gates
  -- no other status comes
  SampleEnds ask out notes gates _ = ⊥
