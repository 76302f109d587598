use Rattle.std.proofs.Common.{ap, ◌∙◌}
use Rattle.trex_claims.specs.Boards.{cores_of}
use Rattle.trex_crew.proofs.SeatDraws.{after_is, may_draw_on, worked_on}
use Rattle.trex_crew.proofs.worker.work.Goals as goal

pub loop-claim-preserved : goal.loop-claim-preserved
loop-claim-preserved g c =
    let piece = g.T.Piece in
    let slots = cores_of c.args.board.now in
    let core = c.in-Some.claim.core in
    let i = c.loop-claim.invariant in
    let me = c.loop-claim.seat.me in
    let drawn = c.draw.new.seat.me in
    let after = c.turn_claimed.new.seat.me in
    let drew = c.in-Some.ensures.some.1 in
    let put = c.turn_claimed.ensures.seat in
    let is = after_is piece.core_of piece.turns_of piece.stem_of piece.is_settled slots core me drawn after drew put in
    record {
      board = c.turn_claimed.ensures.board ∙ c.in-Some.ensures.board ∙ i.board;
      ready = may_draw_on piece.core_of piece.turns_of piece.stem_of piece.is_settled slots core me drawn after drew put c.args.base i.ready;
      round = ap (λ m. m.0.round) is ∙ i.round;
      role = ap (λ m. m.0.role) is ∙ i.role;
      seats_out = ap (λ m. m.0.seats_out) is ∙ i.seats_out;
      gate = worked_on piece.core_of piece.turns_of piece.stem_of piece.is_settled slots core me drawn after drew put g.G.Gate.entries c.args.round c.args.gate.now
          c.loop-claim.gate c.turn_claimed.new.gate c.args.seat.now.me.0.done i.gate c.turn_claimed.ensures.gate;
    }
