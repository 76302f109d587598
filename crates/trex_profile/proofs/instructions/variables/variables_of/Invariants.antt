use Rattle.std.proofs.Common.{◌≡◌, ◌++◌, drop, map}
use Rattle.trex_vars.specs.Variable.{variable_of}
use Rattle.trex_vm.specs.Program.{AreSound}
use Rattle.trex_profile.specs.InstrRules.{range_rule}
use Rattle.trex_profile.specs.Instruction.{instruction}
use Rattle.trex_profile.specs.Order.{first_each}
use Rattle.trex_profile.specs.Steps.{variables_from}
use Rattle.trex_profile.proofs.instructions.variables.variables_of.Given as goal

abbrev pub invariant-loop-at : goal.invariant-loop-at
invariant-loop-at l = record {
  left : first_each (range_rule l.seed) l.at (map instruction (drop l.at l.instrs))
      ≡ first_each (range_rule l.seed) 0 (map instruction l.instrs);
  made : map variable_of l.vars.items ++ variables_from l.seed l.at (map instruction (drop l.at l.instrs))
      ≡ variables_from l.seed 0 (map instruction l.instrs);
  sound : AreSound (map variable_of l.vars.items);
}
