-- The words so far are `run` and those that were cut off.
use Rattle.std.proofs.Common.{◌≡◌, ◌∷◌, codes, map, string_bytes}
use Rattle.trex_rpc.proofs.words.run_words.Given as goal

abbrev pub invariant-loop-word : goal.invariant-loop-word
invariant-loop-word l = map string_bytes l.words.items ≡ codes "run" ∷ map (λ word. word.now) l.yielded
