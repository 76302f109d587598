use Rattle.std.proofs.Common.{◌≡◌, ℕ, ◌≤◌, ◌⊎◌, length}
use Rattle.std.specs.Vec.{vec_capacity}
use Rattle.trex_claims.specs.Board.{below}
use Rattle.trex_claims.specs.Boards.{board_id, cores_of}
use Rattle.trex_claims.specs.Moves.{HoldsNone, round_closed, state_at}
use Rattle.trex_claims.specs.Views.{IsFirst, times}
use Rattle.trex_crew.specs.Rounds.{IsCalm, AreEmpty, ArePieces}
use Rattle.trex_crew.proofs.fetching.fetch_all.Given as goal

abbrev pub invariant-loop-core : goal.invariant-loop-core
invariant-loop-core g l = record {
  board : l.seat.table_id ≡ board_id l.board;
  first : IsFirst l.seat.me.0.role;
  alone : l.seat.me.0.seats_out ≡ 0;
  free : HoldsNone l.seat.me;
  works : ArePieces g.T.Piece.core_of g.T.Piece.turns_of g.T.Piece.stem_of g.T.Piece.is_settled (round_closed l.fn.seat.me.0) 0 l.works.items;
  count : length l.works.items ≡ l.core;
  room : vec_capacity l.works ≡ vec_capacity l.fn.works;
  ahead : (other : ℕ) → l.core ≤ other → state_at (round_closed l.seat.me.0) other ≡ state_at (round_closed l.fn.seat.me.0) other;
  behind : AreEmpty l.core l.seat.me.0;
  phase : ((l.core ≡ 0) × (l.seat.me ≡ l.fn.seat.me))
      ⊎ (IsCalm (cores_of l.board) l.fn.seat.me.0.round.rounds l.seat.me × ((other : ℕ) → times other l.fn.seat.me.0.done ≡ below other (cores_of l.board)));
}
