use Rattle.std.proofs.Common.{◌≡◌, map}
use Rattle.std.specs.List.{range_with_len}
use Rattle.trex_core.specs.Plan.{frames_of_plan}
use Rattle.trex_run.specs.Ready.{first_work}
use Rattle.trex_run.proofs.ready.crew_of.Given as goal

abbrev pub invariant-loop-core : goal.invariant-loop-core
invariant-loop-core l = l.works.items ≡ map (first_work l.plan.base l.cores (frames_of_plan l.plan)) (range_with_len 0 l.core)
