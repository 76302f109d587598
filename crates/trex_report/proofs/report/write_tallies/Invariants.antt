use Rattle.std.proofs.Common.{◌≤◌, take}
use Rattle.std.specs.List.{flat_map}
use Rattle.trex_io.specs.Texts.{Wrote}
use Rattle.trex_report.specs.Texts.{tally_line}
use Rattle.trex_report.proofs.report.write_tallies.Given as goal

abbrev pub invariant-loop-tally : goal.invariant-loop-tally
invariant-loop-tally g l = record {
  written : Wrote g.N.Sink.held l.initial.to l.to (flat_map tally_line (take l.tally-index l.tallies));
  faults : g.N.Sink.faults l.initial.to ≤ g.N.Sink.faults l.to;
}
