use Rattle.std.proofs.Common.{◌≡◌, ◌<◌, ◌+◌, ◌++◌, ◌∷◌, [], length, take, get_or, sym, ap, subst, ◌∙◌, arith}
use Rattle.std.proofs.lemmas.List.{take_more}
use Rattle.trex_crew.specs.Turns.{TookTurn}
use Rattle.trex_crew.proofs.Works.{kept_set, turned_more, not_turned}
use Rattle.trex_crew.proofs.EntryLemmas.{entered_more, entered_of}
use Rattle.trex_crew.proofs.turns.turn_by_one.Goals as goal

pub loop-work-preserved : goal.loop-work-preserved
loop-work-preserved g c =
    let k = c.loop-work.work-index in
    let below : k < length c.args.works.now = omega arith in
    let is = c.work-item.is in
    let item = c.work-item.result in
    let same : get_or c.loop-work.works k item ≡ get_or c.args.works.now k item =
    not_turned g.T.Piece.turned c.args.works.now c.loop-work.works k item (omega arith) c.loop-work.invariant.works in
    let one : take (k + 1) c.args.works.now ≡ take k c.args.works.now ++ item ∷ [] =
    take_more c.args.works.now k item below ∙ ap (λ x. take k c.args.works.now ++ x ∷ []) (sym (is ∙ same)) in
    let entered = entered_more g.G.Gate.entries g.T.Piece.core_of c.args.round (take k c.args.works.now) item c.args.gate.now c.loop-work.gate c.turn_one.new.gate c.loop-work.invariant.gate (entered_of g.G.Gate.entries g.T.Piece.core_of c.args.round c.loop-work.gate c.turn_one.new.gate item (get_or c.loop-work.works k item) is c.turn_one.ensures.gate) in
    let p = g.T.Piece in
    let kept : TookTurn p.core_of p.turns_of p.stem_of p.is_settled item c.turn_one.new.work =
    subst (λ old. TookTurn p.core_of p.turns_of p.stem_of p.is_settled old c.turn_one.new.work) (sym is) c.turn_one.ensures.kept in
    record {
      kept = kept_set p.core_of p.turns_of p.stem_of p.is_settled c.args.works.now c.loop-work.works k item c.turn_one.new.work (omega (arith, c.loop-work.auto.works)) one c.loop-work.invariant.kept kept;
      works = turned_more g.T.Piece.turned c.args.works.now c.loop-work.works k c.work-item.result c.turn_one.new.work below c.loop-work.invariant.works is c.turn_one.ensures.work;
      gate = rw one entered;
    }
