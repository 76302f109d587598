use Rattle.std.proofs.Common.{ap, ◌∙◌}
use Rattle.rand_pcg.specs.Lcg.{increment_of, started}
use Rattle.rand_pcg.specs.Pcg.{multiplier_128}
use Rattle.trex_vars.proofs.DrawLemmas.{stands-new}
use Rattle.trex_wire.proofs.words.generator_of.Goals as goal

pub returns : goal.returns
returns c =
    c.new.ensures ∙ ap (λ seed. started 128 multiplier_128 seed (increment_of 128 0)) c.from.ensures ∙ stands-new c.args.seed 0
