use Rattle.std.proofs.Common.{take}
use Rattle.trex_profile.specs.Reached.{AreReached}
use Rattle.trex_profile.proofs.chains.reach.reaches.Given as goal

abbrev pub invariant-loop-start : goal.invariant-loop-start
invariant-loop-start l = AreReached l.links (take l.start-index l.starts) l.all.items
