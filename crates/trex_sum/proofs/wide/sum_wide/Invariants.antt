use Rattle.std.proofs.Common.{length}
use Rattle.trex_sum.proofs.WideLemmas.{WideSoFar}
use Rattle.trex_sum.proofs.wide.sum_wide.Given as goal

abbrev pub invariant-loop-rest : goal.invariant-loop-rest
invariant-loop-rest l = WideSoFar l.total l.rest l.bytes

abbrev pub decreases-loop-rest : goal.decreases-loop-rest
decreases-loop-rest l = length l.rest
