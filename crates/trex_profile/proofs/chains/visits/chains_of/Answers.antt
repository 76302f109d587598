use Rattle.std.proofs.Common.{length, arith}
use Rattle.trex_profile.proofs.Visiting.{rising-below}
use Rattle.trex_profile.proofs.chains.visits.chains_of.Goals as goal

pub visit-requires-clause-start : goal.visit-requires-clause-start
visit-requires-clause-start c = rising-below (length c.args.nexts.now) 0 c.args.firsts.now c.loop-start.start-index c.requires.rising (omega arith)
