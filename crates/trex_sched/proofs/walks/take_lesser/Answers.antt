use Rattle.std.proofs.Common.{◌≡◌, ◌<◌, true, false, length, refl, sym, ◌∙◌, arith}
use Rattle.std.specs.BinaryHeap.{heap_items, lt_by_cmp}
use Rattle.trex_sched.specs.Heads.{compare_heads}
use Rattle.trex_sched.proofs.Heads.{before_least, less_is, replaced_heads, replaced_least}
use Rattle.trex_sched.proofs.walks.take_lesser.Goals as goal

pub returns-in-Some-clause-heads : goal.returns-in-Some-clause-heads
returns-in-Some-clause-heads c =
    let heads = heap_items c.args.others.now in
    let some : 0 < length heads = let more = c.in-Some.ensures.variant.0 refl in let whole = c.args.others.now.data.ok in omega arith in
    replaced_heads heads (heap_items c.replace_least.new.heads) c.in-Some.field-0.now (record { 0 = c.args.head }) some c.in-Some.ensures.lookup c.replace_least.ensures.heads

pub returns-in-Some-clause-least : goal.returns-in-Some-clause-least
returns-in-Some-clause-least c =
    let less : lt_by_cmp compare_heads c.in-Some.field-0.now.0 c.args.head ≡ true = sym (less_is c.in-Some.field-0.now.0 c.args.head) ∙ sym c.lt.ensures ∙ c.if-lt.true in
    replaced_least (heap_items c.args.others.now) (heap_items c.replace_least.new.heads) c.in-Some.field-0.now (record { 0 = c.args.head }) less
    (c.in-Some.ensures.greatest c.requires.heap) c.replace_least.ensures.heads

pub returns-in_default-clause-least : goal.returns-in_default-clause-least
returns-in_default-clause-least c =
    let not_less : lt_by_cmp compare_heads c.in-Some.field-0.now.0 c.args.head ≡ false = sym (less_is c.in-Some.field-0.now.0 c.args.head) ∙ sym c.lt.ensures ∙ c.if-lt.false in
    before_least c.in-Some.field-0.now (record { 0 = c.args.head }) (heap_items c.args.others.now) not_less (c.in-Some.ensures.greatest c.requires.heap)
