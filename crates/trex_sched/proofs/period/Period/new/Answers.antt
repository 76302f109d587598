use Rattle.std.proofs.Common.{sym}
use Rattle.trex_sched.proofs.Periods.{period_of-some}
use Rattle.trex_sched.proofs.period.Period.new.Goals as goal

pub returns-clause-exact : goal.returns-clause-exact
returns-clause-exact c = sym (period_of-some _ _ _ _ _)
