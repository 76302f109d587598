use Rattle.std.proofs.Common.{◌≡◌, ◌-◌, ◌≤◌, false, length, take}
use Rattle.std.specs.Vec.{vec_capacity}
use Rattle.trex_merge.specs.Machine.{next_in}
use Rattle.trex_run.specs.declared.pieces.TheConstants.{PIECE}
use Rattle.trex_run.specs.Capture.{capture_text}
use Rattle.trex_run.specs.Pieces.{WrittenAndPending}
use Rattle.trex_run.specs.State.{AreSteps, IsThrough, all_of}
use Rattle.trex_run.specs.Step.{is_packet}
use Rattle.trex_run.proofs.capture_writer.gather_all.Given as goal

abbrev pub invariant-runs : goal.invariant-runs
invariant-runs g l = record {
  steps : AreSteps g.G.Gate.entries l.fn.progress l.progress l.fn.gates l.gates;
  gathered : WrittenAndPending g.O.Sink.held l.fn.out l.out l.piece.items (capture_text l.fn.progress.plan.base l.progress.state.sent);
  front : l.progress.state.sent ≡ take (length l.progress.state.sent) (all_of l.fn.progress);
  within : length l.progress.state.sent ≤ length (all_of l.fn.progress);
  more : l.found ≡ is_packet (next_in l.progress.state);
  whole : l.found ≡ false → l.progress.state.sent ≡ all_of l.fn.progress;
  through : l.found ≡ false → IsThrough l.fn.progress l.progress;
  as_many : length l.gates ≡ length l.fn.gates;
  capacity : PIECE ≤ vec_capacity l.piece;
  faults : g.O.Sink.faults l.fn.out ≤ g.O.Sink.faults l.out;
}

abbrev pub decreases-runs : goal.decreases-runs
decreases-runs g l = length (all_of l.fn.progress) - length l.progress.state.sent
