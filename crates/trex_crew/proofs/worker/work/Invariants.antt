use Rattle.std.proofs.Common.{◌≡◌, ◌-◌, [], ◌∷◌, length}
use Rattle.trex_claims.specs.Boards.{board_id, cores_of}
use Rattle.trex_crew.specs.Workers.{MayDraw, Worked}
use Rattle.trex_crew.proofs.worker.work.Given as goal

abbrev pub invariant-loop-claim : goal.invariant-loop-claim
invariant-loop-claim g l = record {
  board : l.seat.table_id ≡ board_id l.board;
  ready : MayDraw l.base l.seat.me;
  round : l.seat.me.0.round ≡ l.fn.seat.me.0.round;
  role : l.seat.me.0.role ≡ l.fn.seat.me.0.role;
  seats_out : l.seat.me.0.seats_out ≡ l.fn.seat.me.0.seats_out;
  gate : Worked g.G.Gate.entries l.round (l.fn.gate ∷ []) (l.gate ∷ []) l.fn.seat.me.0.done l.seat.me.0.done;
}

abbrev pub decreases-loop-claim : goal.decreases-loop-claim
decreases-loop-claim g l = cores_of l.board - length l.seat.me.0.done
