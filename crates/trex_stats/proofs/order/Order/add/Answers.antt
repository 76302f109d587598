-- The three ways in which a number may come: again, late, or in order.
use Rattle.std.proofs.Common.{◌≡◌, Bool, true, false, not, nat_lt, refl, sym, ◌∙◌, arith}
use Rattle.std.specs.List.{list_any}
use Rattle.trex_stats.proofs.Pushes.{order_more}
use Rattle.trex_stats.specs.Ranges.{has}
use Rattle.trex_stats.proofs.order.Order.add.Goals as goal

came_before : (b new : Bool) → new ≡ not b → new ≡ false → b ≡ true
came_before true new is again = refl
came_before false new is again = cc

came_first : (b new : Bool) → new ≡ not b → new ≡ true → b ≡ false
came_first true new is first = cc
came_first false new is first = refl

pub returns-then-not-branch-clause-kept : goal.returns-then-not-branch-clause-kept
returns-then-not-branch-clause-kept c ps a are is =
    let there : has c.args.self.now.seen c.args.number ≡ true = came_before _ _ c.in_ok-insert.ensures.new c.if-not-branch.true in
    order_more c.args.self.now ps a c.args.number _ _ _ are is c.in_ok-insert.ensures.ok (rw there refl) (rw there (omega arith))

pub returns-then-late-clause-kept : goal.returns-then-late-clause-kept
returns-then-late-clause-kept c ps a are is =
    let new : has c.args.self.now.seen c.args.number ≡ false = came_first _ _ c.in_ok-insert.ensures.new c.if-not-branch.false in
    let late : list_any (nat_lt c.args.number) c.args.self.now.seen ≡ true = sym c.is_late-late.ensures ∙ c.if-late.true in
    order_more c.args.self.now ps a c.args.number _ _ _ are is c.in_ok-insert.ensures.ok (rw new (omega arith)) (rw (new, late) refl)

pub returns-else-late-clause-kept : goal.returns-else-late-clause-kept
returns-else-late-clause-kept c ps a are is =
    let new : has c.args.self.now.seen c.args.number ≡ false = came_first _ _ c.in_ok-insert.ensures.new c.if-not-branch.false in
    let late : list_any (nat_lt c.args.number) c.args.self.now.seen ≡ false = sym c.is_late-late.ensures ∙ c.if-late.false in
    order_more c.args.self.now ps a c.args.number _ _ _ are is c.in_ok-insert.ensures.ok (rw new (omega arith)) (rw (new, late) (omega arith))
