-- The numbers that came and those that are missing are all up to the greatest.
use Rattle.std.proofs.Common.{arith}
use Rattle.trex_stats.proofs.Members.{gaps}
use Rattle.trex_stats.proofs.order.Order.lost.Goals as goal

pub overflow_sub-result-in-Some : goal.overflow_sub-result-in-Some
overflow_sub-result-in-Some c =
    let g = gaps c.args.self.now.seen c.in-Some.greatest c.count.ensures.rise c.in-Some.ensures.0 c.in-Some.ensures.1 in
    omega (arith, g.0, c.count.ensures.count)

pub returns-in-Some : goal.returns-in-Some
returns-in-Some c =
    let g = gaps c.args.self.now.seen c.in-Some.greatest c.count.ensures.rise c.in-Some.ensures.0 c.in-Some.ensures.1 in
    omega (arith, g.0, g.1, c.count.ensures.count)
