use Rattle.std.proofs.Common.{◌≡◌, ◌≤◌, drop, take, map}
use Rattle.trex_profile.specs.Given.{given_of, givens}
use Rattle.trex_profile.specs.InstrRules.{name_rule}
use Rattle.trex_profile.specs.Instruction.{instruction}
use Rattle.trex_profile.specs.Order.{first_each}
use Rattle.trex_profile.proofs.Naming.{var_after}
use Rattle.trex_profile.proofs.instructions.names.names_of.Given as goal

abbrev pub invariant-loop-at : goal.invariant-loop-at
invariant-loop-at l = record {
  left : first_each (name_rule (map instruction l.instrs)) l.at (map instruction (drop l.at l.instrs))
      ≡ first_each (name_rule (map instruction l.instrs)) 0 (map instruction l.instrs);
  made : map given_of l.names.items ≡ givens 0 (take l.at (map instruction l.instrs));
  vars : l.vars ≡ var_after 0 (take l.at (map instruction l.instrs));
  few : l.vars ≤ l.at;
}
