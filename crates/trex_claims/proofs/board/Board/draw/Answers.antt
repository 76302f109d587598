use Rattle.std.proofs.Common.{◌<◌, arith}
use Rattle.trex_claims.proofs.Draws.{draws}
use Rattle.trex_claims.proofs.board.Board.draw.Goals as goal

pub fetch_add-number-requires : goal.fetch_add-number-requires
fetch_add-number-requires g c =
    let piece = g.T.Piece in
    let table = c.args.self.now.table.shared.table_id in
    let some_word : 0 < table.words = omega (arith, c.args.self.now.sized.0) in
    (c.requires.board, some_word, draws piece.core_of piece.turns_of piece.stem_of piece.is_settled table.slots c.args.seat.now.id c.args.seat.now.me c.requires.open c.requires.free.0 c.requires.no_none_yet)
