use Rattle.std.proofs.Common.{◌≡◌, map, take}
use Rattle.std.specs.List.{filter_map}
use Rattle.trex_profile.specs.Instruction.{instruction}
use Rattle.trex_profile.specs.Steps.{restart_of}
use Rattle.trex_profile.proofs.instructions.variables.restarts_of.Given as goal

abbrev pub invariant-loop-instr : goal.invariant-loop-instr
invariant-loop-instr l = l.restarts.items ≡ filter_map restart_of (take l.instr-index (map instruction l.instrs))
