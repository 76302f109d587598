-- The number so far is that of the bytes so far.
use Rattle.std.proofs.Common.{◌≡◌, take}
use Rattle.trex_decimal.specs.Decimal.{digits_number}
use Rattle.trex_decimal.proofs.decimal.digits_number.Given as goal

abbrev pub invariant-loop-byte : goal.invariant-loop-byte
invariant-loop-byte l = l.number ≡ digits_number (take l.byte-index l.text)
