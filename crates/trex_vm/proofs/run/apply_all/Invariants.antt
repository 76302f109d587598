use Rattle.std.proofs.Common.{◌≡◌, take}
use Rattle.trex_vm.specs.Packet.{after_all}
use Rattle.trex_vm.proofs.run.apply_all.Given as goal

abbrev pub invariant-loop-instr : goal.invariant-loop-instr
invariant-loop-instr l = l.bytes ≡ after_all l.values (take l.instr-index l.instrs) l.initial.bytes
