-- The last number of the last range is the greatest.
use Rattle.std.proofs.Common.{◌≡◌, ◌≤◌, true, refl, subst, ◌∷◌, [], ◌++◌}
use Rattle.std.specs.List.{AllByRecursion}
use Rattle.trex_stats.proofs.Spans.{last_is_greatest}
use Rattle.trex_stats.specs.Ranges.{Ascend, has, numbers}
use Rattle.trex_stats.proofs.ranges.SeqRanges.greatest.Goals as goal

pub returns-in-Some : goal.returns-in-Some
returns-in-Some c =
    let rs = c.self.inside.ranges.entries in
    let last = c.in-Some.last in
    let whole = rs ++ (c.in-Some.field-0-0, last) ∷ [] in
    let up : Ascend 0 whole = rw c.in-Some.is at c.self.invariant.0 in
    let view : numbers whole ≡ c.args.self.now = rw c.in-Some.is at c.self.view_is in
    subst (λ l. (has l last ≡ true) × AllByRecursion (λ y. y ≤ last) l) view (last_is_greatest whole rs (c.in-Some.field-0-0, last) up refl)
