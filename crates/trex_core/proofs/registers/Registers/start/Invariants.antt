use Rattle.std.proofs.Common.{◌≡◌, map, take}
use Rattle.std.specs.List.{AllByRecursion}
use Rattle.trex_core.specs.Registers.{IsAt, restarts_of, shown, variables_of}
use Rattle.trex_vars.specs.Variable.{variable_of}
use Rattle.trex_core.proofs.registers.Registers.start.Given as goal

abbrev pub invariant-loop-at : goal.invariant-loop-at
invariant-loop-at l = record {
  variables : variables_of l.registers.items ≡ map variable_of (take l.at l.vars);
  restarts : restarts_of l.registers.items ≡ take l.at l.restart;
  stand : AllByRecursion (IsAt l.cores l.core l.core) l.registers.items;
  read : l.values.items ≡ map shown l.registers.items;
}
