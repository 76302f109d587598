use Rattle.std.proofs.Common.{◌≡◌, drop, map}
use Rattle.trex_profile.specs.Given.{given_of, is_given}
use Rattle.trex_profile.proofs.instructions.names.is_given.Given as goal

abbrev pub invariant-loop-given : goal.invariant-loop-given
invariant-loop-given l =
    is_given (map given_of (drop l.given-index l.names)) l.name ≡ is_given (map given_of l.names) l.name
