use Rattle.std.proofs.Common.{◌≡◌, drop}
use Rattle.trex_profile.specs.InstrRules.{fix_rule}
use Rattle.trex_profile.specs.Order.{first_each}
use Rattle.trex_profile.proofs.rules.places.wrong_fix.Given as goal

abbrev pub invariant-loop-at : goal.invariant-loop-at
invariant-loop-at l =
    first_each (fix_rule l.template l.room) l.at (drop l.at l.steps) ≡ first_each (fix_rule l.template l.room) 0 l.steps
