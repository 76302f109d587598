use Rattle.std.proofs.Common.{◌≡◌, ◌+◌, ◌<◌, ◌≤◌, ◌++◌, ◌∷◌, [], length, take, sym, ap, subst, ◌∙◌, arith}
use Rattle.std.proofs.lemmas.List.{take_more, length-take-le}
use Rattle.trex_crew.specs.Orders.{AreInOrder}
use Rattle.trex_crew.proofs.Lent.{in_order_snoc}
use Rattle.trex_crew.proofs.crew.is_in_order.Goals as goal

pub loop-place-preserved : goal.loop-place-preserved
loop-place-preserved g c =
    let works = c.args.works.now in
    let k = c.loop-place.place in
    let core_of = g.T.Piece.core_of in
    let item = c.index-works-place.result in
    let below : k < length works = c.loop-place-test.true in
    let within : k ≤ length works = omega arith in
    let one : take (k + 1) works ≡ take k works ++ item ∷ [] = take_more works k item below ∙ ap (λ x. take k works ++ x ∷ []) (sym c.index-works-place.is) in
    let long = length-take-le k works within in
    let is = c.core.ensures.core in
    let same = c.if-core-place.false in
    let core : core_of item ≡ 0 + length (take k works) = omega arith in
    subst (λ l. AreInOrder core_of 0 l) (sym one) (in_order_snoc core_of 0 (take k works) item c.loop-place.invariant core)
