use Rattle.std.proofs.Common.{◌<◌, arith}
use Rattle.trex_claims.proofs.Rounds.{splits}
use Rattle.trex_claims.proofs.board.Board.split.Goals as goal

pub split_seat-requires : goal.split_seat-requires
split_seat-requires g c =
    let piece = g.T.Piece in
    let table = c.args.self.now.table.shared.table_id in
    let some_word : 0 < table.words = omega (arith, c.args.self.now.sized.0) in
    (c.requires.board, some_word, splits piece.core_of piece.turns_of piece.stem_of piece.is_settled c.args.seat.now.id c.args.seat.now.me.0 c.requires.first c.requires.open c.requires.seats_left)
