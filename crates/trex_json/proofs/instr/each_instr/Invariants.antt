use Rattle.std.proofs.Common.{◌≡◌, All, length, map, drop, take}
use Rattle.serde_json.specs.View.{view}
use Rattle.trex_profile.specs.Instruction.{instruction, IsRawInstr}
use Rattle.trex_profile.specs.Order.{first_each}
use Rattle.trex_json.specs.Operands.{instr_rules, instruction_of}
use Rattle.trex_json.proofs.instr.each_instr.Given as goal

abbrev pub invariant-loop-at : goal.invariant-loop-at
invariant-loop-at l = record {
  left : first_each (instr_rules l.seed) l.at (map view (drop l.at l.items)) ≡ first_each (instr_rules l.seed) 0 (map view l.items);
  made : map instruction l.instrs.items ≡ map (instruction_of l.seed) (map view (take l.at l.items));
  count : length l.instrs.items ≡ l.at;
  ranges : All IsRawInstr (map instruction l.instrs.items);
}
