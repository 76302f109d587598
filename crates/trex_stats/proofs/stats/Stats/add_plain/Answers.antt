use Rattle.std.proofs.Common.{ap, arith}
use Rattle.trex_stats.proofs.Standing.{stands_filled}
use Rattle.trex_stats.proofs.stats.Stats.add_plain.Goals as goal

pub returns-clause-counts : goal.returns-clause-counts
returns-clause-counts c rs counts all =
    stands_filled c.args.self.now _ rs counts (omega (arith, ap (λ k. k.records) c.self.view_is, all)) (ap (λ k. k.stamped) c.self.view_is) (ap (λ k. k.flows) c.self.view_is)
