use Rattle.std.proofs.Common.{◌<◌, arith}
use Rattle.trex_claims.proofs.Rounds.{joins}
use Rattle.trex_claims.proofs.board.Board.join.Goals as goal

pub join_seat-requires : goal.join_seat-requires
join_seat-requires g c =
    let piece = g.T.Piece in
    let table = c.args.self.now.table.shared.table_id in
    let some_word : 0 < table.words = omega (arith, c.args.self.now.sized.0) in (
      c.requires.board,
      c.requires.other_board,
      c.requires.free.1,
      some_word,
      joins piece.core_of piece.turns_of piece.stem_of piece.is_settled c.args.seat.now.id c.args.seat.now.me.0 c.args.other.id c.args.other.me.0 c.requires.first c.requires.other c.requires.free.0,
    )
