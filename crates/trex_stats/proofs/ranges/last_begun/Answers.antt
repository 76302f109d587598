-- It is the last of all where this one begins at the number or below it, and else the last of the others that does.
use Rattle.std.proofs.Common.{refl, subst, sym, ◌∷◌, [], ◌++◌}
use Rattle.trex_stats.proofs.Spans.{Ascend-others, below_others}
use Rattle.trex_stats.specs.Ranges.{Ascend, IsBelow, with_tail}
use Rattle.trex_stats.proofs.ranges.last_begun.Goals as goal

pub range_below-requires : goal.range_below-requires
range_below-requires c = Ascend-others c.args.ranges.now.entries c.args.tail c.requires

pub range_below-requires-2 : goal.range_below-requires-2
range_below-requires-2 c = Ascend-others c.args.ranges.now.entries c.args.tail c.requires

pub returns-then-first-number : goal.returns-then-first-number
returns-then-first-number c =
    let rs = c.args.ranges.now.entries in
    subst (λ t. IsBelow (with_tail rs t) c.args.number t) (sym c.in-Some.is) (rs, [], refl, c.if-first-number.true, tt)

pub returns : goal.returns
returns c =
    let rs = c.args.ranges.now.entries in
    let up : Ascend 0 (rs ++ (c.in-Some.first, c.in-Some.field-0-1) ∷ []) = rw c.in-Some.is at c.requires in
    subst (λ t. IsBelow (with_tail rs t) c.args.number c.range_below-2.result) (sym c.in-Some.is)
    (below_others rs (c.in-Some.first, c.in-Some.field-0-1) c.args.number c.range_below-2.result up c.if-first-number.false c.range_below-2.ensures)
