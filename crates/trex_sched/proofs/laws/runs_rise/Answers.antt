use Rattle.trex_sched.proofs.EntryOrder.{starts_rise}
use Rattle.trex_sched.proofs.Visits.{runs_all, runs_visits}
use Rattle.trex_sched.proofs.laws.runs_rise.Goals as goal

pub returns-clause-visits : goal.returns-clause-visits
returns-clause-visits c = runs_visits

pub returns-clause-all : goal.returns-clause-all
returns-clause-all c = runs_all

pub returns-clause-rising : goal.returns-clause-rising
returns-clause-rising c = starts_rise
