use Rattle.std.proofs.Common.{ap, ◌∙◌}
use Rattle.rand_pcg.specs.Pcg.{pcg64}
use Rattle.trex_vars.proofs.DrawLemmas.{drawn-word, drawn-stands}
use Rattle.trex_vars.proofs.words.draw_after.Goals as goal

pub returns-clause-word : goal.returns-clause-word
returns-clause-word c seed position n e =
    ap (λ p. p.0) c.next_word.ensures ∙ ap (λ g. (pcg64 g).0) c.skip.ensures
    ∙ drawn-word c.args.generator.now seed position n c.args.skipped e

pub returns-clause-stands : goal.returns-clause-stands
returns-clause-stands c seed position n e =
    ap (λ p. p.1) c.next_word.ensures ∙ ap (λ g. (pcg64 g).1) c.skip.ensures
    ∙ drawn-stands c.args.generator.now seed position n c.args.skipped e
