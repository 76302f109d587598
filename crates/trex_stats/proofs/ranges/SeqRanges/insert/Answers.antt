-- What the set holds before and after: the last range grew, or has the number, or the number went in apart from it.
use Rattle.std.proofs.Common.{◌≡◌, ◌+◌, ◌∙◌, ◌∷◌, [], ◌++◌, sym, ap, subst, arith, if◌then◌else◌, true, not, length}
use Rattle.std.specs.BTreeSet.{insert_key}
use Rattle.std.specs.Ordering.{nat_cmp}
use Rattle.trex_stats.proofs.Spans.{grown, gains_there, has_tail, has_no_more, length-insert}
use Rattle.trex_stats.specs.Ranges.{Ascend, has, numbers, with_tail}
use Rattle.trex_stats.proofs.ranges.SeqRanges.insert.Goals as goal

pub invariant_of-self : goal.invariant_of-self
invariant_of-self c =
    let rs = c.self.inside.ranges.entries in
    let up : Ascend 0 (rs ++ (c.in-Some.first, c.in-Some.last) ∷ []) = rw c.in-Some.is at c.self.invariant.0 in
    let counted : c.self.inside.count ≡ length (numbers (rs ++ (c.in-Some.first, c.in-Some.last) ∷ [])) = rw c.in-Some.is at c.self.invariant.1 in
    let gains = grown rs c.in-Some.first c.in-Some.last c.args.number up (omega arith) c.ranges.number.fits in
    let new = has_no_more rs c.in-Some.first c.in-Some.last c.args.number up c.if-last-number.true in
    let more = length-insert (rs ++ (c.in-Some.first, c.in-Some.last) ∷ []) c.args.number true up (sym (ap not new)) in
    (gains.ascend, omega (arith, counted, ap length gains.gains, more), tt)

pub returns-then-number-last-eq1-clause-new : goal.returns-then-number-last-eq1-clause-new
returns-then-number-last-eq1-clause-new c =
    let rs = c.self.inside.ranges.entries in
    let up : Ascend 0 (rs ++ (c.in-Some.first, c.in-Some.last) ∷ []) = rw c.in-Some.is at c.self.invariant.0 in
    let view : numbers (rs ++ (c.in-Some.first, c.in-Some.last) ∷ []) ≡ c.args.self.now = rw c.in-Some.is at c.self.view_is in
    sym (ap not (sym (ap (λ l. has l c.args.number) view) ∙ has_no_more rs c.in-Some.first c.in-Some.last c.args.number up c.if-last-number.true))

pub returns-then-number-last-eq1-clause-ok : goal.returns-then-number-last-eq1-clause-ok
returns-then-number-last-eq1-clause-ok c =
    let rs = c.self.inside.ranges.entries in
    let up : Ascend 0 (rs ++ (c.in-Some.first, c.in-Some.last) ∷ []) = rw c.in-Some.is at c.self.invariant.0 in
    let view : numbers (rs ++ (c.in-Some.first, c.in-Some.last) ∷ []) ≡ c.args.self.now = rw c.in-Some.is at c.self.view_is in
    (grown rs c.in-Some.first c.in-Some.last c.args.number up (omega arith) c.ranges.number.fits).gains ∙ ap (λ l. insert_key nat_cmp l c.args.number) view

pub returns-then-number-last-eq1-clause-len : goal.returns-then-number-last-eq1-clause-len
returns-then-number-last-eq1-clause-len c =
    let rs = c.self.inside.ranges.entries in
    let up : Ascend 0 (rs ++ (c.in-Some.first, c.in-Some.last) ∷ []) = rw c.in-Some.is at c.self.invariant.0 in
    let view : numbers (rs ++ (c.in-Some.first, c.in-Some.last) ∷ []) ≡ c.args.self.now = rw c.in-Some.is at c.self.view_is in
    let gains = grown rs c.in-Some.first c.in-Some.last c.args.number up (omega arith) c.ranges.number.fits in
    let new = has_no_more rs c.in-Some.first c.in-Some.last c.args.number up c.if-last-number.true in
    ap length gains.gains ∙ length-insert (rs ++ (c.in-Some.first, c.in-Some.last) ∷ []) c.args.number true up (sym (ap not new)) ∙ ap (λ l. length l + 1) view

pub returns-then-number-last-clause-new : goal.returns-then-number-last-clause-new
returns-then-number-last-clause-new c =
    let rs = c.self.inside.ranges.entries in
    let up : Ascend 0 (rs ++ (c.in-Some.first, c.in-Some.last) ∷ []) = rw c.in-Some.is at c.self.invariant.0 in
    let view : numbers (rs ++ (c.in-Some.first, c.in-Some.last) ∷ []) ≡ c.args.self.now = rw c.in-Some.is at c.self.view_is in
    sym (ap not (sym (ap (λ l. has l c.args.number) view) ∙ has_tail rs c.in-Some.first c.in-Some.last c.args.number up c.if-first-number.true c.if-number-last.true))

pub returns-then-number-last-clause-ok : goal.returns-then-number-last-clause-ok
returns-then-number-last-clause-ok c =
    let rs = c.self.inside.ranges.entries in
    let whole = rs ++ (c.in-Some.first, c.in-Some.last) ∷ [] in
    let up : Ascend 0 (rs ++ (c.in-Some.first, c.in-Some.last) ∷ []) = rw c.in-Some.is at c.self.invariant.0 in
    let view : numbers (rs ++ (c.in-Some.first, c.in-Some.last) ∷ []) ≡ c.args.self.now = rw c.in-Some.is at c.self.view_is in
    let there = has_tail rs c.in-Some.first c.in-Some.last c.args.number up c.if-first-number.true c.if-number-last.true in
    subst (λ l. l ≡ insert_key nat_cmp l c.args.number) view (gains_there (rs ++ (c.in-Some.first, c.in-Some.last) ∷ []) c.args.number up there).gains

pub invariant_of-self-then-new : goal.invariant_of-self-then-new
invariant_of-self-then-new c =
    let old = with_tail c.self.inside.ranges.entries c.self.inside.tail in
    let gains = c.in_ok-new.ensures.ok in
    let more = length-insert old c.args.number c.in_ok-new.new c.self.invariant.0 c.in_ok-new.ensures.new in
    (gains.ascend, omega (arith, c.self.invariant.1, ap length gains.gains, rw c.if-new.true at more), c.insert_apart.ensures.none)

pub invariant_of-self-else-new : goal.invariant_of-self-else-new
invariant_of-self-else-new c =
    let old = with_tail c.self.inside.ranges.entries c.self.inside.tail in
    let gains = c.in_ok-new.ensures.ok in
    let more = length-insert old c.args.number c.in_ok-new.new c.self.invariant.0 c.in_ok-new.ensures.new in
    (gains.ascend, omega (arith, c.self.invariant.1, ap length gains.gains, rw c.if-new.false at more), c.insert_apart.ensures.none)

pub returns-then-new-clause-len : goal.returns-then-new-clause-len
returns-then-new-clause-len c =
    let old = with_tail c.self.inside.ranges.entries c.self.inside.tail in
    ap length c.in_ok-new.ensures.ok.gains ∙ length-insert old c.args.number c.in_ok-new.new c.self.invariant.0 c.in_ok-new.ensures.new
    ∙ ap (λ l. length l + (if c.in_ok-new.new then 1 else 0)) c.self.view_is

pub returns-else-new-clause-len : goal.returns-else-new-clause-len
returns-else-new-clause-len c =
    let old = with_tail c.self.inside.ranges.entries c.self.inside.tail in
    ap length c.in_ok-new.ensures.ok.gains ∙ length-insert old c.args.number c.in_ok-new.new c.self.invariant.0 c.in_ok-new.ensures.new
    ∙ ap (λ l. length l + (if c.in_ok-new.new then 1 else 0)) c.self.view_is
