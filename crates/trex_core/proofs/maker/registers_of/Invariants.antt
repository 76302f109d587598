use Rattle.std.proofs.Common.{◌≡◌, map, take}
use Rattle.trex_core.specs.Registers.{values_by}
use Rattle.trex_profile.specs.Packets.{values_of}
use Rattle.trex_core.proofs.maker.registers_of.Given as goal

abbrev pub invariant-loop-i : goal.invariant-loop-i
invariant-loop-i l = map values_by l.all.items ≡ map values_of (take l.i l.plan.profile)
