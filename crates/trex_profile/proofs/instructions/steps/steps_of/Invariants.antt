use Rattle.std.proofs.Common.{◌≡◌, drop, take, map, length}
use Rattle.trex_profile.specs.Given.{given_of}
use Rattle.trex_profile.specs.InstrRules.{unknown_rule}
use Rattle.trex_profile.specs.Instruction.{instruction}
use Rattle.trex_profile.specs.Order.{first_each}
use Rattle.trex_profile.specs.Steps.{step}
use Rattle.trex_profile.proofs.instructions.steps.steps_of.Given as goal

abbrev pub invariant-loop-at : goal.invariant-loop-at
invariant-loop-at l = record {
  left : first_each (unknown_rule l.template (map given_of l.names)) l.at (map instruction (drop l.at l.instrs))
      ≡ first_each (unknown_rule l.template (map given_of l.names)) 0 (map instruction l.instrs);
  made : l.steps.items ≡ map (step l.template (map given_of l.names)) (map instruction (take l.at l.instrs));
  count : length l.steps.items ≡ l.at;
}
