use Rattle.std.proofs.Common.{take}
use Rattle.trex_crew.specs.Orders.{AreInOrder}
use Rattle.trex_crew.proofs.crew.is_in_order.Given as goal

abbrev pub invariant-loop-place : goal.invariant-loop-place
invariant-loop-place g l = AreInOrder g.T.Piece.core_of 0 (take l.place l.works)
