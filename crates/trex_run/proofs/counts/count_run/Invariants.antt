use Rattle.std.proofs.Common.{◌≡◌, ◌+◌, ◌-◌, ◌*◌, ◌≤◌, length, sum_by, take}
use Rattle.trex_merge.specs.Frames.{Frame}
use Rattle.trex_sum.specs.Running.{running}
use Rattle.trex_run.specs.Capture.{capture_text}
use Rattle.trex_run.specs.State.{AreSteps, all_of}
use Rattle.trex_run.specs.Step.{reached}
use Rattle.trex_run.proofs.counts.count_run.Given as goal

abbrev pub invariant-packets : goal.invariant-packets
invariant-packets g l = record {
  steps : AreSteps g.G.Gate.entries l.initial.ready l.ready l.initial.gates l.gates;
  within : reached l.ready.state ≤ length (all_of l.initial.ready);
  summed : l.sum ≡ running (capture_text 0 (take (reached l.ready.state) (all_of l.initial.ready)));
  room : l.sum.sum ≤ 65536 * (24 + 9232 * reached l.ready.state);
  packets : l.packets ≡ reached l.ready.state;
  bytes : l.bytes ≡ sum_by (λ (frame : Frame). length frame.bytes) (take (reached l.ready.state) (all_of l.initial.ready));
  small : l.bytes ≤ 9216 * reached l.ready.state;
}

abbrev pub decreases-packets : goal.decreases-packets
decreases-packets g l = length (all_of l.initial.ready) - reached l.ready.state
