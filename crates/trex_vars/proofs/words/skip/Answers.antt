use Rattle.std.proofs.Common.{refl, ap, ◌∙◌}
use Rattle.rand_pcg.specs.Lcg.{state_after}
use Rattle.rand_pcg.specs.Pcg.{pcg64}
use Rattle.trex_vars.proofs.DrawLemmas.{one-more}
use Rattle.trex_vars.proofs.words.skip.Goals as goal

pub loop-word-init : goal.loop-word-init
unfolding state_after
loop-word-init c = refl

pub loop-word-preserved : goal.loop-word-preserved
loop-word-preserved c =
    ap (λ p. p.1) c.next_word.ensures ∙ ap (λ g. (pcg64 g).1) c.loop-word.invariant ∙ one-more c.args.generator.now c.loop-word._word
