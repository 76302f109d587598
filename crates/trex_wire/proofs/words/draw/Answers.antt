use Rattle.std.proofs.Common.{ℕ, ◌+◌, ap, ◌∙◌, add-zero}
use Rattle.rand_pcg.specs.Lcg.{state_after}
use Rattle.rand_pcg.specs.Pcg.{pcg64}
use Rattle.trex_vars.specs.Value.{stands_at, word_at}
use Rattle.trex_vars.proofs.DrawLemmas.{drawn-stands}
use Rattle.trex_wire.proofs.words.draw.Goals as goal

pub returns-clause-word : goal.returns-clause-word
unfolding word_at
returns-clause-word c seed n e = ap (λ p. p.0) c.next_word.ensures ∙ ap (λ g. (pcg64 g).0) e

pub returns-clause-stands : goal.returns-clause-stands
unfolding state_after
returns-clause-stands c seed n e =
    ap (λ p. p.1) c.next_word.ensures ∙ drawn-stands c.args.generator.now seed 0 n 0 e
    ∙ ap (λ (k : ℕ). stands_at seed 0 (k + 1)) (add-zero n)
