-- What the ranges hold before and after, where the number lies apart from the last one by a gap.
use Rattle.std.proofs.Common.{◌≡◌, ◌∷◌, [], ◌++◌, sym, ap, subst, arith, false, not, IfOk}
use Rattle.std.proofs.lemmas.Result.{on_ok_weaker}
use Rattle.trex_stats.proofs.Spans.{Ascend-others, before_gap, behind_gap, has_no_more, has_others}
use Rattle.trex_stats.specs.Ranges.{Ascend, has, numbers, with_tail}
use Rattle.trex_stats.proofs.ranges.insert_apart.Goals as goal

pub returns-then-number-last-gt1-clause-new : goal.returns-then-number-last-gt1-clause-new
returns-then-number-last-gt1-clause-new c =
    let rs = c.args.ranges.now.entries in
    let up : Ascend 0 (rs ++ (c.in-Some.first, c.in-Some.last) ∷ []) = rw c.in-Some.is at c.requires.ascend in
    let absent : has (numbers (with_tail rs c.args.tail.now)) c.args.number ≡ false = rw c.in-Some.is (has_no_more rs c.in-Some.first c.in-Some.last c.args.number up c.if-last-number.true) in
    sym (ap not absent)

pub returns-then-number-last-gt1-clause-ok : goal.returns-then-number-last-gt1-clause-ok
returns-then-number-last-gt1-clause-ok c =
    let rs = c.args.ranges.now.entries in
    let up : Ascend 0 (rs ++ (c.in-Some.first, c.in-Some.last) ∷ []) = rw c.in-Some.is at c.requires.ascend in
    rw (c.in_ok-put_back.ensures.ok, c.in-Some.is)
    (behind_gap rs c.in-Some.first c.in-Some.last c.args.number up (omega (arith, c.if-last-number.true, c.if-number-last-gt1.true)) c.ranges.number.fits)

pub insert_into-requires : goal.insert_into-requires
insert_into-requires c = Ascend-others c.args.ranges.now.entries c.args.tail.now c.requires.ascend

pub returns-then-first-number-gt1-clause-new : goal.returns-then-first-number-gt1-clause-new
returns-then-first-number-gt1-clause-new c =
    let rs = c.args.ranges.now.entries in
    let up : Ascend 0 (rs ++ (c.in-Some.first, c.in-Some.last) ∷ []) = rw c.in-Some.is at c.requires.ascend in
    let same : has (numbers (with_tail rs c.args.tail.now)) c.args.number ≡ has (numbers rs) c.args.number =
    rw c.in-Some.is (has_others rs (c.in-Some.first, c.in-Some.last) c.args.number up c.if-number-first.true) in
    subst (λ b. IfOk c.insert_into.result (λ new. new ≡ not b)) (sym same) c.insert_into.ensures.new

pub returns-then-first-number-gt1-clause-ok : goal.returns-then-first-number-gt1-clause-ok
returns-then-first-number-gt1-clause-ok c =
    let rs = c.args.ranges.now.entries in
    let up : Ascend 0 (rs ++ (c.in-Some.first, c.in-Some.last) ∷ []) = rw c.in-Some.is at c.requires.ascend in
    on_ok_weaker c.insert_into.result
    (λ gains. rw c.in-Some.is (before_gap rs c.insert_into.new.ranges.entries (c.in-Some.first, c.in-Some.last) c.args.number up
    (omega (arith, c.if-number-first.true, c.if-first-number-gt1.true)) gains)) c.insert_into.ensures.ok
