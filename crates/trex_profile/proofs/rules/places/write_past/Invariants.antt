use Rattle.std.proofs.Common.{◌≡◌, drop}
use Rattle.trex_profile.specs.InstrRules.{room_rule}
use Rattle.trex_profile.specs.Order.{first_each}
use Rattle.trex_profile.proofs.rules.places.write_past.Given as goal

abbrev pub invariant-loop-at : goal.invariant-loop-at
invariant-loop-at l =
    first_each (room_rule l.room) l.at (drop l.at l.steps) ≡ first_each (room_rule l.room) 0 l.steps
