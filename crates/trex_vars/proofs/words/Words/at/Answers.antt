use Rattle.std.proofs.Common.{◌≡◌, ◌+◌, ap, ◌∙◌, zero-add}
use Rattle.rand_pcg.specs.Lcg.{started, increment_of}
use Rattle.rand_pcg.specs.Pcg.{multiplier_128}
use Rattle.trex_vars.specs.Value.{stands_at, word_at}
use Rattle.trex_vars.proofs.DrawLemmas.{stands-new}
use Rattle.trex_vars.proofs.words.Words.at.Goals as goal

pub invariant_of-result : goal.invariant_of-result
invariant_of-result c =
    let new : c.new-generator.result ≡ stands_at c.args.draw.seed c.args.draw.position 0 =
    c.new-generator.ensures ∙ ap (λ seed. started 128 multiplier_128 seed (increment_of 128 c.from-2.result)) c.from.ensures
    ∙ ap (λ position. started 128 multiplier_128 c.args.draw.seed (increment_of 128 position)) c.from-2.ensures
    ∙ stands-new c.args.draw.seed c.args.draw.position in
    let drawn = c.draw_after-word.ensures in (
      drawn.stands c.args.draw.seed c.args.draw.position 0 new
          ∙ ap (λ n. stands_at c.args.draw.seed c.args.draw.position (n + 1)) (zero-add c.args.draw.number),
      drawn.word c.args.draw.seed c.args.draw.position 0 new
          ∙ ap (word_at c.args.draw.seed c.args.draw.position) (zero-add c.args.draw.number),
    )
