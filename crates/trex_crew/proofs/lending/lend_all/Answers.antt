use Rattle.std.proofs.Common.{◌+◌, ◌∷◌, length, sym, subst, ◌∙◌, arith}
use Rattle.trex_claims.specs.Boards.{cores_of}
use Rattle.trex_claims.specs.Views.{IsEmpty}
use Rattle.trex_claims.specs.Moves.{state_at}
use Rattle.trex_crew.specs.Rounds.{AreLent, IsCalm, IsLent}
use Rattle.trex_crew.proofs.Lent.{next_of, still_lent}
use Rattle.trex_crew.proofs.lending.lend_all.Goals as goal

pub lend_one-requires-clause-core : goal.lend_one-requires-clause-core
lend_one-requires-clause-core g c κs within =
    let i = c.loop-work.invariant in
    let next = next_of g.T.Piece.core_of c.args.works.now.items c.loop-work.works.items c.in-Some.work c.pop.new.self.items i.lent.0 c.requires.order i.lent.1 c.in-Some.ensures.items in
    let inside = next.inside in
    let cores = c.requires.cores in
    omega arith

pub lend_one-requires-clause-empty : goal.lend_one-requires-clause-empty
lend_one-requires-clause-empty g c κs within core h =
    let i = c.loop-work.invariant in
    let next = next_of g.T.Piece.core_of c.args.works.now.items c.loop-work.works.items c.in-Some.work c.pop.new.self.items i.lent.0 c.requires.order i.lent.1 c.in-Some.ensures.items in
    let long = next.long in
    let is = next.core_is in
    i.empty core (omega arith)

pub loop-work-preserved : goal.loop-work-preserved
loop-work-preserved g c =
    let piece = g.T.Piece in
    let i = c.loop-work.invariant in
    let next = next_of g.T.Piece.core_of c.args.works.now.items c.loop-work.works.items c.in-Some.work c.pop.new.self.items i.lent.0 c.requires.order i.lent.1 c.in-Some.ensures.items in
    let long = next.long in
    let is = next.core_is in
    let v = c.loop-work.seat.me.0 in
    let w = c.lend_one.new.seat.me.0 in
    let others = c.lend_one.ensures.others in
    let here = subst (λ n. IsLent piece.turns_of piece.stem_of piece.is_sound (state_at w n) c.in-Some.work) is c.lend_one.ensures.lent in
    let n = length c.pop.new.self.items in
    let rest = still_lent piece.turns_of piece.stem_of piece.is_sound v w (n + 1) i.lent.0 (λ other h. others other (λ e. absurd (omega arith)))
    (subst (λ k. AreLent piece.turns_of piece.stem_of piece.is_sound v k i.lent.0) long i.lent.2) in
    record {
      board = c.lend_one.ensures.board ∙ i.board;
      calm = subst (λ n. IsCalm (cores_of c.args.board.now) n c.lend_one.new.seat.me) i.calm.rounds_are c.lend_one.ensures.calm;
      empty = λ core h. subst (λ t. IsEmpty t.slot) (sym (others core (λ e. absurd (omega arith)))) (i.empty core (omega arith));
      lent = (c.in-Some.work ∷ i.lent.0, next.whole, (here, rest));
      room = c.in-Some.ensures.capacity ∙ i.room;
    }
