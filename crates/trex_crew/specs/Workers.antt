-- Workers that share a board in a round. Own.
use Rattle.std.specs.Prelude.{◌≡◌, ℕ, ◌<◌, ◌^◌, List, ◌++◌, Option, true, false}
use Rattle.trex_claims.specs.Boards.{Me}
use Rattle.trex_claims.specs.declared.view.View.{View}
use Rattle.trex_claims.specs.Moves.{HoldsNone, state_at}
use Rattle.trex_crew.specs.Told.{Entered}

module _ {T : Type 0} where
  -- a seat of the open round with this base that may draw
  pub record MayDraw (base : ℕ) (me : Me (Option T) View) : Type 0 where
    pub open_round : me.0.round.running ≡ true
    pub base_is : base ≡ me.0.round.base
    pub free : HoldsNone me
    pub no_none_yet : me.0.saw_none ≡ false
    pub turns : (core : ℕ) → (state_at me.0 core).turns < 2 ^ 63

  -- a seat that drew until it saw None
  pub record HasDrawn (before after : Me (Option T) View) : Type 0 where
    pub saw_none : after.0.saw_none ≡ true
    pub free : HoldsNone after
    pub round : after.0.round ≡ before.0.round
    pub role : after.0.role ≡ before.0.role
    pub seats_out : after.0.seats_out ≡ before.0.seats_out

-- The cores that were put back since, each with one entry of a gate.
abbrev pub Worked : {G : Type 0} → (G → Option (List (ℕ × ℕ))) → ℕ → List G → List G → List ℕ → List ℕ → Type 0
Worked entries round old new before after = (cores : List ℕ) × (after ≡ cores ++ before) × Entered entries (λ core. core) cores round old new
