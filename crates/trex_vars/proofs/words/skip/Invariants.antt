use Rattle.std.proofs.Common.{◌≡◌}
use Rattle.rand_pcg.specs.Lcg.{advance}
use Rattle.rand_pcg.specs.Pcg.{multiplier_128}
use Rattle.trex_vars.proofs.words.skip.Given as goal

abbrev pub invariant-loop-word : goal.invariant-loop-word
invariant-loop-word l = l.generator ≡ advance 128 multiplier_128 l._word l.fn.generator
