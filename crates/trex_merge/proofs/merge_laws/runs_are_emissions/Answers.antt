use Rattle.std.proofs.Common.{◌-◌, length, replicate, subst}
use Rattle.trex_merge.specs.Machine.{Emit, IsMill}
use Rattle.trex_merge.proofs.EventLemmas.{run_keeps}
use Rattle.trex_merge.proofs.RunLemmas.{run_has_one, run_passes}
use Rattle.trex_merge.proofs.merge_laws.runs_are_emissions.Goals as goal

pub returns : goal.returns
returns c = record {
  run = λ state at many before next others within. run_passes many state at before (λ some. next) others within;
  mill = λ frames state at many before mill next others within.
      subst (IsMill frames) (run_passes many state at before (λ some. next) others within) (run_keeps frames state (replicate many Emit) mill);
  some = λ frames state at before mill next elsewhere. run_has_one frames state (state.limit - length state.sent) at before mill next elsewhere;
}
