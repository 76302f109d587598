use Rattle.trex_run.proofs.LookLemmas.{HasSeen}
use Rattle.trex_run.proofs.firsts.look.Given as goal

abbrev pub invariant-loop-at : goal.invariant-loop-at
invariant-loop-at g l = HasSeen g.F.Feed.queue l.feeds l.at l.lead
