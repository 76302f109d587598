use Rattle.std.proofs.Common.{◌≡◌, ◌++◌, List, length}
use Rattle.std.specs.Vec.{vec_capacity}
use Rattle.std.specs.Prelude.{vec_len}
use Rattle.trex_claims.specs.Boards.{board_id, cores_of}
use Rattle.trex_crew.specs.Rounds.{IsCalm, AreEmpty, AreLent}
use Rattle.trex_crew.proofs.lending.lend_all.Given as goal

abbrev pub invariant-loop-work : goal.invariant-loop-work
invariant-loop-work g l = record {
  board : l.seat.table_id ≡ board_id l.board;
  calm : IsCalm (cores_of l.board) l.fn.seat.me.0.round.rounds l.seat.me;
  empty : AreEmpty (length l.works.items) l.seat.me.0;
  lent : (rest : List g.row.T.Denot) × (l.fn.works.items ≡ l.works.items ++ rest) × AreLent g.T.Piece.turns_of g.T.Piece.stem_of g.T.Piece.is_sound l.seat.me.0 (length l.works.items) rest;
  room : vec_capacity l.works ≡ vec_capacity l.fn.works;
}

abbrev pub decreases-loop-work : goal.decreases-loop-work
decreases-loop-work g l = vec_len l.works
