use Rattle.trex_run.proofs.MillLemmas.{emit_is, round_is, goes_on}
use Rattle.trex_run.proofs.step.steps_are_events.Goals as goal

pub returns : goal.returns
returns c = record { emit = emit_is; round = round_is; goes_on = goes_on }
