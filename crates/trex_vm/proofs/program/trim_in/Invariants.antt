use Rattle.std.proofs.Common.{◌≡◌, drop}
use Rattle.trex_vm.specs.Effect.{first_trim}
use Rattle.trex_vm.proofs.program.trim_in.Given as goal

abbrev pub invariant-loop-instr : goal.invariant-loop-instr
invariant-loop-instr l = first_trim (drop l.instr-index l.instrs) ≡ first_trim l.instrs
