-- What was written, and the pieces of the rest, are the whole.
use Rattle.std.proofs.Common.{◌≡◌, ◌++◌, length}
use Rattle.std.specs.List.{flat_map}
use Rattle.trex_decimal.specs.Quoted.{kept, pieces_of}
use Rattle.trex_decimal.proofs.quote.quote_numbers.Given as goal

abbrev pub invariant-loop-rest : goal.invariant-loop-rest
invariant-loop-rest l = l.out.items ++ flat_map kept (pieces_of (length l.rest) l.rest) ≡ flat_map kept (pieces_of (length l.text) l.text)

abbrev pub decreases-loop-rest : goal.decreases-loop-rest
decreases-loop-rest l = length l.rest
