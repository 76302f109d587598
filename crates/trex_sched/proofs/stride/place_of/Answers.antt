use Rattle.std.proofs.Common.{ap, arith}
use Rattle.trex_sched.specs.Times.{size_of}
use Rattle.trex_sched.proofs.Strides.{multi_burst}
use Rattle.trex_sched.proofs.stride.place_of.Goals as goal

pub overflow_sub-result-in-SingleBurst : goal.overflow_sub-result-in-SingleBurst
overflow_sub-result-in-SingleBurst c = omega (arith, c.requires.within c.in-SingleBurst.total (ap size_of c.in-SingleBurst.is))

pub returns-in-MultiBurst : goal.returns-in-MultiBurst
returns-in-MultiBurst c =
    let b = c.in-MultiBurst in
    rw c.from-per_burst.ensures (multi_burst c.args.leg.now b.per_burst b.ibg b.count c.args.k b.is c.requires.packets c.requires.within)
