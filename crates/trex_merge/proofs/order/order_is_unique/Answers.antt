use Rattle.trex_merge.proofs.OrderLemmas.{filter-ordered, ordered_first, ordered_is_only, ordered_kept, rising-ordered, same-ordered}
use Rattle.trex_merge.proofs.order.order_is_unique.Goals as goal

pub returns-clause-rising : goal.returns-clause-rising
returns-clause-rising g c = rising-ordered g.T.Keyed.key_of

pub returns-clause-same : goal.returns-clause-same
returns-clause-same g c = same-ordered g.T.Keyed.key_of

pub returns-clause-only : goal.returns-clause-only
returns-clause-only g c = ordered_is_only g.T.Keyed.key_of

pub returns-clause-first : goal.returns-clause-first
returns-clause-first g c = ordered_first g.T.Keyed.key_of

pub returns-clause-parts : goal.returns-clause-parts
returns-clause-parts g c = filter-ordered g.T.Keyed.key_of

pub returns-clause-kept : goal.returns-clause-kept
returns-clause-kept g c = ordered_kept g.T.Keyed.key_of
