-- A crew is its works, its board, its seat and its count of rounds.
use Rattle.std.proofs.Common.{◌≡◌, ◌≤◌}
use Rattle.std.proofs.Props.{props}
use Rattle.trex_claims.specs.Boards.{board_id, cores_of}
use Rattle.trex_crew.specs.declared.crew.Crew.{Crew}
use Rattle.trex_crew.specs.Rounds.{IsIdle, IsFirst-prop, IsEmpty-prop}

module _ {T : Type 0} (a : Crew T) where
  seated_once : IsProp (a.seat.table_id ≡ board_id a.board)
  seated_once = hlevel props

  idle_once : IsProp (IsIdle (cores_of a.board) a.seat.me)
  idle_once = hlevel (props, IsFirst-prop, IsEmpty-prop)

  counted_once : IsProp (a.seat.me.0.round.rounds ≤ a.rounds)
  counted_once = hlevel props

  -- the facts that it keeps don't tell two crews apart
  pub same_crew : (seated : a.seat.table_id ≡ board_id a.board) (idle : IsIdle (cores_of a.board) a.seat.me) (counted : a.seat.me.0.round.rounds ≤ a.rounds)
      → record a { seated = seated; idle = idle; counted = counted } ≡ a
  same_crew seated idle counted i = record a { seated = seated_once seated a.seated i; idle = idle_once idle a.idle i; counted = counted_once counted a.counted i }
