use Rattle.trex_core.specs.Beginnings.{batch_longest, batch_prefix, batch_within}
use Rattle.trex_core.proofs.laws.batches_are_longest.Goals as goal

pub returns-clause-prefix : goal.returns-clause-prefix
returns-clause-prefix c = batch_prefix

pub returns-clause-within : goal.returns-clause-within
returns-clause-within c = batch_within

pub returns-clause-longest : goal.returns-clause-longest
returns-clause-longest c = batch_longest
