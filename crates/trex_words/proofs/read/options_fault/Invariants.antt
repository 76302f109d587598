-- Nothing is wrong with the pairs so far.
use Rattle.std.proofs.Common.{◌≡◌, None}
use Rattle.trex_words.specs.Asked.{texts, pair_fault, options_of}
use Rattle.trex_words.specs.First.{first_of}
use Rattle.trex_words.proofs.read.options_fault.Given as goal

abbrev pub invariant-loop-pair : goal.invariant-loop-pair
invariant-loop-pair l = first_of (pair_fault (options_of l.command) (texts l.words)) l.pair ≡ None
