use Rattle.std.proofs.Common.{subst}
use Rattle.trex_stats.proofs.Spans.{numbers_rise}
use Rattle.trex_stats.specs.Ranges.{Rises, with_tail}
use Rattle.trex_stats.proofs.ranges.SeqRanges.count.Goals as goal

pub returns-clause-rise : goal.returns-clause-rise
returns-clause-rise c = subst (Rises 0) c.self.view_is (numbers_rise 0 (with_tail c.self.inside.ranges.entries c.self.inside.tail) c.self.invariant.0)
