use Rattle.std.proofs.Common.{◌<◌, ◌∷◌, length, sym, ◌∙◌, subst, arith}
use Rattle.std.specs.BinaryHeap.{heap_items}
use Rattle.std.specs.List.Sorted.{IsPermutation}
use Rattle.trex_sched.proofs.Heads.{heads_shuffled, no_head_known, put_back_known}
use Rattle.trex_sched.proofs.walks.take_next.Goals as goal

pub returns-in-Some-clause-known : goal.returns-in-Some-clause-known
returns-in-Some-clause-known c =
    let lists = c.args.walks.now.items in
    let heads = heap_items c.args.others.now in
    let more = record { 0 = c.take_lesser.result } ∷ heap_items c.take_lesser.new.others in
    let within : c.args.place < length lists = let whole = c.args.walks.now.ok in let place = c.requires.place in omega arith in
    put_back_known lists heads more c.args.place c.if-is_some.walk c.in-Some.next within c.requires.others (sym c.peek.ensures ∙ c.in-Some.is)
    (subst (λ h. IsPermutation (record { 0 = h } ∷ heads) more) c.new.ensures c.take_lesser.ensures.heads)

pub returns-in-None-clause-known : goal.returns-in-None-clause-known
returns-in-None-clause-known c =
    let others = heap_items c.args.others.now in
    heads_shuffled _ others _ c.take_least.ensures.heads
    (no_head_known c.args.walks.now.items others c.args.place c.if-is_some.walk c.requires.others (sym c.peek.ensures ∙ c.in-None.is))
