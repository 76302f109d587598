use Rattle.std.proofs.Common.{◌≡◌, drop, map}
use Rattle.trex_vars.specs.Variable.{variable_of}
use Rattle.trex_profile.specs.InstrRules.{trim_rule}
use Rattle.trex_profile.specs.Order.{first_each}
use Rattle.trex_profile.proofs.rules.lengths.wrong_trim.Given as goal

abbrev pub invariant-loop-at : goal.invariant-loop-at
invariant-loop-at l =
    first_each (trim_rule (map variable_of l.vars) l.template) l.at (drop l.at l.steps)
    ≡ first_each (trim_rule (map variable_of l.vars) l.template) 0 l.steps
