use Rattle.std.proofs.Common.{◌≡◌, drop}
use Rattle.trex_profile.specs.InstrRules.{field_rule}
use Rattle.trex_profile.specs.Order.{first_each}
use Rattle.trex_profile.proofs.rules.places.missed_field.Given as goal

abbrev pub invariant-loop-at : goal.invariant-loop-at
invariant-loop-at l =
    first_each field_rule l.at (drop l.at l.steps) ≡ first_each field_rule 0 l.steps
