use Rattle.std.proofs.Common.{◌+◌, ◌<◌, arith, rules}
use Rattle.trex_claims.proofs.CallLemmas.{puts_taken}
use Rattle.trex_claims.proofs.board.Board.put.Goals as goal

pub fetch_add-requires : goal.fetch_add-requires
fetch_add-requires g c =
    let piece = g.T.Piece in
    let table = c.args.self.now.table.shared.table_id in
    let core = c.args.claim.core in
    let seat = c.exchange.new.seat in
    let word : core + 1 < table.words = omega (arith, c.args.self.now.sized.0, c.requires.core) in (
      search rules,
      word,
      puts_taken piece.core_of piece.turns_of piece.stem_of piece.is_settled table.slots seat.id c.args.seat.now.me seat.me core c.args.piece c.requires.claim c.requires.core c.requires.taken
          c.requires.piece c.exchange.ensures.3,
    )
