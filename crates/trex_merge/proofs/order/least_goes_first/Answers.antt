use Rattle.trex_merge.proofs.ListLemmas.{joined_none, ordered_least, pairs-joined, rising-set}
use Rattle.trex_merge.proofs.order.least_goes_first.Goals as goal

pub returns-clause-first : goal.returns-clause-first
returns-clause-first g c = ordered_least g.T.Keyed.key_of

pub returns-clause-rising : goal.returns-clause-rising
returns-clause-rising g c = rising-set g.T.Keyed.key_of

pub returns-clause-distinct : goal.returns-clause-distinct
returns-clause-distinct g c = pairs-joined _

pub returns-clause-none : goal.returns-clause-none
returns-clause-none g c = joined_none
