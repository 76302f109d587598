-- What was passed and what is left of the JSON text make up the whole.
use Rattle.std.proofs.Common.{◌≡◌, ◌+◌, false, drop}
use Rattle.trex_decimal.specs.Quoted.{text_len}
use Rattle.trex_decimal.proofs.quote.text_len.Given as goal

abbrev pub invariant-loop-at : goal.invariant-loop-at
invariant-loop-at l = l.at + text_len l.protected (drop l.at l.bytes) ≡ text_len false l.bytes
