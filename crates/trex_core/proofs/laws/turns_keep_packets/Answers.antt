use Rattle.trex_core.specs.Turning.{refill_settles, stem-refilled}
use Rattle.trex_core.specs.Works.{added}
use Rattle.trex_core.proofs.laws.turns_keep_packets.Goals as goal

pub returns-clause-stem : goal.returns-clause-stem
returns-clause-stem c work = stem-refilled (added work.queue) work.queue

pub returns-clause-settled : goal.returns-clause-settled
returns-clause-settled c work = refill_settles work.queue
