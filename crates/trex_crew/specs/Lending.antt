-- What a crew ends as, where its works are lent. Own.
use Rattle.std.specs.Prelude.{List}
use Rattle.std.specs.Borrow.{Lends, Fml, RattleType, MutBor, Array}
use Rattle.std.specs.Vec.{with_items}
use Rattle.trex_claims.specs.declared.piece.Piece.{Ghosts}
use Rattle.trex_crew.specs.declared.crew.Crew.{Crew}
use Rattle.trex_crew.specs.contracts.crew.Crew.{the_row}

-- the crew with other works
abbrev pub with_works : {T : Type 0} → Crew T → List T → Crew T
with_works crew works = record crew { works = with_items crew.works works }

module _ (T : RattleType) (piece : Ghosts T.Denot) (crew : MutBor (Crew T.Denot)) where
  -- once the borrow r ends, the works are those that r shows last
  abbrev pub lends_works : MutBor (List T.Denot) → Fml
  lends_works r = Lends (the_row T piece) (Array T 0) crew r (with_works crew.now)
