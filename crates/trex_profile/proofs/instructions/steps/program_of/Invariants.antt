use Rattle.std.proofs.Common.{◌≡◌, ◌++◌, drop}
use Rattle.trex_profile.specs.Steps.{program_of}
use Rattle.trex_profile.proofs.instructions.steps.program_of.Given as goal

abbrev pub invariant-loop-step : goal.invariant-loop-step
invariant-loop-step l =
    l.instrs.items ++ program_of (drop l.step-index l.steps) ≡ program_of l.steps
