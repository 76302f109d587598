use Rattle.std.proofs.Common.{◌≡◌, drop, take}
use Rattle.std.specs.List.{list_any}
use Rattle.trex_vm.specs.Rules.{is_trim}
use Rattle.trex_profile.specs.InstrRules.{does, twice_rule}
use Rattle.trex_profile.specs.Order.{first_each}
use Rattle.trex_profile.proofs.rules.lengths.second_trim.Given as goal

abbrev pub invariant-loop-at : goal.invariant-loop-at
invariant-loop-at l = record {
  is_cut : l.is_cut ≡ list_any (does is_trim) (take l.at l.steps);
  left : first_each (twice_rule l.steps) l.at (drop l.at l.steps) ≡ first_each (twice_rule l.steps) 0 l.steps;
}
