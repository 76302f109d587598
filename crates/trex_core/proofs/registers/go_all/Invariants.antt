use Rattle.std.proofs.Common.{◌≡◌, ◌++◌, map, take, drop}
use Rattle.trex_core.specs.Registers.{moved, shown}
use Rattle.trex_core.proofs.registers.go_all.Given as goal

abbrev pub invariant-loop-at : goal.invariant-loop-at
invariant-loop-at l = record {
  moved : l.registers ≡ map (moved l.by_number l.by_place) (take l.at l.initial.registers) ++ drop l.at l.initial.registers;
  shown : take l.at l.values ≡ map shown (take l.at l.registers);
}
