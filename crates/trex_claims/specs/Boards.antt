-- A board as its callers see it. Own.
use Rattle.std.specs.Prelude.{ℕ}
use Rattle.atomic_table.specs.Seated.{TableId}
pub use Rattle.atomic_table.specs.Table.{Me, rest}
use Rattle.trex_claims.specs.declared.board.Board.{Board}

-- which board it is: its seats have the same
abbrev pub board_id : {T : Type 0} → Board T → TableId
board_id board = board.table.shared.table_id

-- how many cores it has
abbrev pub cores_of : {T : Type 0} → Board T → ℕ
cores_of board = board.table.shared.table_id.slots
