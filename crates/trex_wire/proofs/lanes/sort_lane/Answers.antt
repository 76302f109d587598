use Rattle.trex_wire.proofs.OrderLemmas.{distinct_moved, rising_from_sorted}
use Rattle.trex_wire.proofs.lanes.sort_lane.Goals as goal

pub returns-clause-rising : goal.returns-clause-rising
returns-clause-rising c copy distinct =
    rising_from_sorted copy c.sort_unstable.new.self.items c.sort_unstable.ensures.sorted
    (distinct_moved copy c.args.lane.now.items c.sort_unstable.new.self.items c.sort_unstable.ensures.permutation distinct)
