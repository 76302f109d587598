-- What the grammar says of where the text stops.
use Rattle.std.proofs.Common.{sym, ap, ◌∙◌}
use Rattle.trex_decimal.specs.Grammar.{stop_of}
use Rattle.trex_decimal.proofs.Fronts.{IsLongestFront-of_stop}
use Rattle.trex_decimal.proofs.Digits.{few_digits}
use Rattle.trex_decimal.proofs.decimal.scaled.Goals as goal

pub returns-in-Some-clause-syntax : goal.returns-in-Some-clause-syntax
returns-in-Some-clause-syntax c = IsLongestFront-of_stop c.args.text.now c.in-Some.at (ap stop_of (sym c.as_bytes-text.ensures.value) ∙ sym c.in-Some.ensures)

pub floor_of-requires : goal.floor_of-requires
floor_of-requires c = few_digits _ (sym c.in-None.ensures)
