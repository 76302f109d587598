use Rattle.std.proofs.Common.{◌≡◌, drop, map}
use Rattle.std.specs.List.{list_any}
use Rattle.trex_profile.specs.Given.{given_of, is_given}
use Rattle.trex_profile.proofs.instructions.names.are_given.Given as goal

abbrev pub invariant-loop-one : goal.invariant-loop-one
invariant-loop-one l =
    list_any (λ g. is_given (map given_of l.names) g.name) (map given_of (drop l.one-index l.given))
    ≡ list_any (λ g. is_given (map given_of l.names) g.name) (map given_of l.given)
