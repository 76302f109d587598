use Rattle.std.proofs.Common.{◌<◌, arith}
use Rattle.trex_claims.proofs.Rounds.{begins}
use Rattle.trex_claims.proofs.board.Board.begin.Goals as goal

pub load-requires : goal.load-requires
load-requires g c =
    let piece = g.T.Piece in
    let table = c.args.self.now.table.shared.table_id in
    let some_word : 0 < table.words = omega (arith, c.args.self.now.sized.0) in
    (c.requires.board, some_word, begins piece.core_of piece.turns_of piece.stem_of piece.is_settled table.slots c.args.seat.now.id c.args.seat.now.me c.requires.first c.requires.closed c.requires.rounds c.requires.full)
