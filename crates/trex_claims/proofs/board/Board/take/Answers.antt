use Rattle.std.proofs.Common.{Some}
use Rattle.trex_claims.proofs.CallLemmas.{sole_slot}
use Rattle.trex_claims.proofs.board.Board.take.Goals as goal

pub exchange-requires : goal.exchange-requires
exchange-requires g c = let found = c.requires.piece in
    (c.requires.board, (Some found.0, sole_slot c.args.seat.now.me.1 c.args.claim.now.core (Some found.0) found.1))
