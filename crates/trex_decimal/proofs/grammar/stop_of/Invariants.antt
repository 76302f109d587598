-- The rest stops where the whole text does.
use Rattle.std.proofs.Common.{◌≡◌, drop}
use Rattle.trex_decimal.specs.declared.place.Place.TheVariants.{Start}
use Rattle.trex_decimal.specs.Grammar.{stop_from}
use Rattle.trex_decimal.proofs.Fronts.{later}
use Rattle.trex_decimal.proofs.grammar.stop_of.Given as goal

abbrev pub invariant-loop-at : goal.invariant-loop-at
invariant-loop-at l = later l.at (stop_from l.place (drop l.at l.text)) ≡ stop_from Start l.text
