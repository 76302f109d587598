use Rattle.std.proofs.Common.{◌≡◌, drop, map}
use Rattle.trex_profile.specs.Given.{given_of, operand_of}
use Rattle.trex_profile.proofs.instructions.names.operand_of.Given as goal

abbrev pub invariant-loop-given : goal.invariant-loop-given
invariant-loop-given l =
    operand_of (map given_of (drop l.given-index l.names)) l.name ≡ operand_of (map given_of l.names) l.name
