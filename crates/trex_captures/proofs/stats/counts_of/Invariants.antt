use Rattle.std.proofs.Common.{◌≤◌}
use Rattle.trex_captures.proofs.stats.counts_of.Given as goal

abbrev pub invariant-loop-flow : goal.invariant-loop-flow
invariant-loop-flow l = l.stats.records ≤ l.flow-index
