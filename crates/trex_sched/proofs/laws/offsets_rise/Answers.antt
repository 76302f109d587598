use Rattle.trex_sched.proofs.Offsets.{offset_rising, offset_spread, offset_within, run_ends}
use Rattle.trex_sched.proofs.laws.offsets_rise.Goals as goal

pub returns-clause-spread : goal.returns-clause-spread
returns-clause-spread c leg = offset_spread leg.period leg.mode

pub returns-clause-rising : goal.returns-clause-rising
returns-clause-rising c leg = offset_rising leg.period leg.mode

pub returns-clause-ends : goal.returns-clause-ends
returns-clause-ends c leg = run_ends leg.period leg.mode

pub returns-clause-within : goal.returns-clause-within
returns-clause-within c leg = offset_within leg.period leg.mode
