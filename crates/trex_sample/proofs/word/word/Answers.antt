use Rattle.std.proofs.Common.{◌≡◌, ap, ◌∙◌, zero-add}
use Rattle.rand_pcg.specs.Lcg.{advance, started, increment_of}
use Rattle.rand_pcg.specs.Pcg.{pcg64, multiplier_128}
use Rattle.trex_vars.specs.Value.{stands_at, word_at}
use Rattle.trex_vars.proofs.DrawLemmas.{drawn-word, stands-new}
use Rattle.trex_sample.proofs.word.word.Goals as goal

pub returns : goal.returns
returns c =
    let new : c.new-generator.result ≡ stands_at c.args.seed 0 0 =
    c.new-generator.ensures ∙ ap (λ seed. started 128 multiplier_128 seed (increment_of 128 0)) c.from.ensures ∙ stands-new c.args.seed 0 in
    ap (λ p. p.0) c.next_word.ensures ∙ ap (λ g. (pcg64 g).0) c.advance.ensures
    ∙ ap (λ k. (pcg64 (advance 128 multiplier_128 k c.new-generator.result)).0) c.from-2.ensures
    ∙ drawn-word c.new-generator.result c.args.seed 0 0 c.args.number new ∙ ap (word_at c.args.seed 0) (zero-add c.args.number)
