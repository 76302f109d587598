use Rattle.std.proofs.Common.{◌≡◌, drop}
use Rattle.trex_profile.specs.InstrRules.{shape_rule}
use Rattle.trex_profile.specs.Order.{first_each}
use Rattle.trex_profile.proofs.rules.places.write_on_shape.Given as goal

abbrev pub invariant-loop-at : goal.invariant-loop-at
invariant-loop-at l =
    first_each (shape_rule l.program) l.at (drop l.at l.steps) ≡ first_each (shape_rule l.program) 0 l.steps
