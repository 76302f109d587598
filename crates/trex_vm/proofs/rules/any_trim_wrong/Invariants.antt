use Rattle.std.proofs.Common.{◌≡◌, drop, map}
use Rattle.std.specs.List.{list_any}
use Rattle.trex_vars.specs.Variable.{variable_of}
use Rattle.trex_vm.specs.Rules.{trim_wrong}
use Rattle.trex_vm.proofs.rules.any_trim_wrong.Given as goal

abbrev pub invariant-loop-instr : goal.invariant-loop-instr
invariant-loop-instr l =
    list_any (trim_wrong (map variable_of l.vars) l.template) (drop l.instr-index l.instrs)
    ≡ list_any (trim_wrong (map variable_of l.vars) l.template) l.instrs
