use Rattle.std.proofs.Common.{◌≡◌, ◌++◌, ◌∷◌, [], map, take, drop}
use Rattle.trex_crew.specs.Told.{Entered}
use Rattle.trex_crew.specs.Turns.{TookTurns}
use Rattle.trex_crew.proofs.turns.turn_by_one.Given as goal

abbrev pub invariant-loop-work : goal.invariant-loop-work
invariant-loop-work g l = record {
  works : l.works ≡ map g.T.Piece.turned (take l.work-index l.initial.works) ++ drop l.work-index l.initial.works;
  kept : TookTurns g.T.Piece.core_of g.T.Piece.turns_of g.T.Piece.stem_of g.T.Piece.is_settled (take l.work-index l.initial.works) (take l.work-index l.works);
  gate : Entered g.G.Gate.entries g.T.Piece.core_of (take l.work-index l.initial.works) l.round (l.initial.gate ∷ []) (l.gate ∷ []);
}
