use Rattle.std.proofs.Common.{rules}
use Rattle.std.proofs.lemmas.List.Sorted.{IsPermutation-trans, IsPermutation-cons}
use Rattle.std.proofs.lemmas.Option.{MatchOption-at_some}
use Rattle.trex_sched.proofs.walks.replace_least.Goals as goal

pub returns-clause-heads : goal.returns-clause-heads
returns-clause-heads c =
    let least = c.unwrap-least.result in
    let rest = MatchOption-at_some _ _ least c.unwrap-least.ensures c.peek_mut.ensures.rest in
    let moved = IsPermutation-trans _ _ _ (IsPermutation-cons (record { 0 = c.args.head }) _ _ rest) (c.drop-least.ensures.permutation (search rules)) in
    search rules
