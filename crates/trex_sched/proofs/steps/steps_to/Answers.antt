use Rattle.trex_sched.proofs.Turns.{not_before, reached_ahead, reached_behind}
use Rattle.trex_sched.proofs.steps.steps_to.Goals as goal

pub returns-then-rest-core-clause-reached : goal.returns-then-rest-core-clause-reached
returns-then-rest-core-clause-reached c = reached_ahead _ _ _ c.requires.core c.if-rest-core.true

pub returns-else-rest-core-clause-reached : goal.returns-else-rest-core-clause-reached
returns-else-rest-core-clause-reached c = reached_behind _ _ _ c.requires.core c.if-rest-core.false

pub returns-else-rest-core-clause-least : goal.returns-else-rest-core-clause-least
returns-else-rest-core-clause-least c step = not_before _ _ _ step c.requires.core c.if-rest-core.false
