-- The option doesn't stand in the pairs so far.
use Rattle.std.proofs.Common.{◌≡◌, None}
use Rattle.trex_words.specs.Asked.{texts, value_place}
use Rattle.trex_words.proofs.read.value_place.Given as goal

abbrev pub invariant-loop-pair : goal.invariant-loop-pair
invariant-loop-pair l = value_place (texts l.words) l.pair l.name ≡ None
