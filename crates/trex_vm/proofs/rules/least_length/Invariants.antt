use Rattle.std.proofs.Common.{◌≡◌, drop, map}
use Rattle.trex_vars.specs.Variable.{variable_of}
use Rattle.trex_vm.specs.Rules.{least_length}
use Rattle.trex_vm.proofs.rules.least_length.Given as goal

abbrev pub invariant-loop-instr : goal.invariant-loop-instr
invariant-loop-instr l =
    least_length (map variable_of l.vars) (drop l.instr-index l.instrs) l.template ≡ least_length (map variable_of l.vars) l.instrs l.template
