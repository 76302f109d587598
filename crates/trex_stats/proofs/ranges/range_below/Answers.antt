use Rattle.trex_stats.proofs.Spans.{below_some}
use Rattle.trex_stats.proofs.ranges.range_below.Goals as goal

pub returns-in-Some : goal.returns-in-Some
returns-in-Some c =
    below_some c.args.ranges.now.entries c.range.result c.next_back.new.self (c.in-Some.first.now, c.in-Some.last.now) c.args.number c.requires
    (c.range.ensures.between tt) c.in-Some.ensures.steps ((c.range.ensures.in_range tt).3 _ _ c.in-Some.ensures.steps).0.1
