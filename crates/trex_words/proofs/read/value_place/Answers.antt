-- The pair whose option has the name is the first.
use Rattle.std.proofs.Common.{◌≡◌, ◌+◌, true, cond, Some, None, sym, ap, ◌∙◌}
use Rattle.std.specs.Str.{bytes_eq}
use Rattle.trex_words.specs.Asked.{texts, word, option_at}
use Rattle.trex_words.proofs.Firsts.{first_of-found}
use Rattle.trex_words.proofs.read.value_place.Goals as goal

pub returns-then-eq : goal.returns-then-eq
returns-then-eq c =
    let words = texts c.args.words.now in
    let name = c.args.name.now in
    let k = c.loop-pair.pair in
    let same : bytes_eq (word words (option_at k)) name ≡ true = ap (λ w. bytes_eq w name) (sym c.word.ensures) ∙ sym c.eq.ensures ∙ c.if-eq.true in
    sym (first_of-found (λ k. cond (bytes_eq (word words (option_at k)) name) (Some (option_at k + 1)) None) c.args.pairs k (option_at k + 1) c.loop-pair-test.true c.loop-pair.invariant (ap (λ b. cond b (Some (option_at k + 1)) None) same))
