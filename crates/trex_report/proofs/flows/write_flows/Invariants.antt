-- The lines so far, and those that are left, are the lines of all flows.
use Rattle.std.proofs.Common.{◌≡◌, ◌≤◌, ◌++◌}
use Rattle.std.specs.List.{flat_map}
use Rattle.trex_io.specs.Texts.{Wrote}
use Rattle.trex_stats.specs.Counts.{lines_in}
use Rattle.trex_report.specs.Texts.{flow_line}
use Rattle.trex_report.proofs.flows.write_flows.Given as goal

abbrev pub invariant-loop-flow : goal.invariant-loop-flow
invariant-loop-flow g l = record {
  can : (goal.iterator-loop-flow g).can_next l.flow-iterator;
  finite : (goal.iterator-loop-flow g).is_finite l.flow-iterator;
  whole : lines_in l.stats.flows ≡ l.yielded ++ l.flow-iterator;
  written : Wrote g.O.Sink.held l.initial.to l.to (flat_map flow_line l.yielded);
  faults : g.O.Sink.faults l.initial.to ≤ g.O.Sink.faults l.to;
}
