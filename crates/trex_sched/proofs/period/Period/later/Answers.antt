use Rattle.trex_sched.proofs.Splits.{later_over, later_within}
use Rattle.trex_sched.proofs.period.Period.later.Goals as goal

pub returns-then-rest-self-clause-split : goal.returns-then-rest-self-clause-split
returns-then-rest-self-clause-split c j k one other = later_within c.args.self.now j k c.args.one c.args.other one other c.if-rest-self.true

pub returns-else-rest-self-clause-split : goal.returns-else-rest-self-clause-split
returns-else-rest-self-clause-split c j k one other =
    later_over c.args.self.now j k c.args.one c.args.other one other c.requires.rests.0 c.requires.rests.1 c.if-rest-self.false
