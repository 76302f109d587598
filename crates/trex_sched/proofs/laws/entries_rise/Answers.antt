use Rattle.trex_sched.proofs.EntryOrder.{entries_below, entries_distinct, entries_numbers, entries_places, entries_rising, entries_shares, entries_streams, share_one}
use Rattle.trex_sched.proofs.laws.entries_rise.Goals as goal

pub returns-clause-rising : goal.returns-clause-rising
returns-clause-rising c = entries_rising

pub returns-clause-distinct : goal.returns-clause-distinct
returns-clause-distinct c = entries_distinct

pub returns-clause-numbers : goal.returns-clause-numbers
returns-clause-numbers c = entries_numbers

pub returns-clause-below : goal.returns-clause-below
returns-clause-below c = entries_below

pub returns-clause-places : goal.returns-clause-places
returns-clause-places c = entries_places

pub returns-clause-streams : goal.returns-clause-streams
returns-clause-streams c = entries_streams

pub returns-clause-shares : goal.returns-clause-shares
returns-clause-shares c = entries_shares

pub returns-clause-whole : goal.returns-clause-whole
returns-clause-whole c = share_one
