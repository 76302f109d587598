-- The works of a crew on its board: lent before the turns of a round, and fetched after them. Own.
use Rattle.std.specs.Prelude.{◌≡◌, ℕ, ◌+◌, ◌<◌, List, [], ◌∷◌, length, Option, false}
use Rattle.std.specs.Coded.{Unit-prop}
use Rattle.trex_claims.specs.declared.view.Role.{Role}
use Rattle.trex_claims.specs.declared.view.Role.TheVariants.{First, Other, Spent}
use Rattle.trex_claims.specs.declared.view.SlotState.{SlotState}
use Rattle.trex_claims.specs.declared.view.SlotState.TheVariants.{Empty, Out, Full}
use Rattle.trex_claims.specs.declared.view.CoreState.{CoreState}
use Rattle.trex_claims.specs.declared.view.View.{View}
use Rattle.trex_claims.specs.Views.{IsFirst, IsEmpty, IsFull}
use Rattle.trex_claims.specs.Board.{IsPiece}
use Rattle.trex_claims.specs.Boards.{Me}
use Rattle.trex_claims.specs.Moves.{HoldsNone, state_at}

-- the first seat of a board of so many cores, while no round is open
pub record IsCalm {T : Type 0} (cores rounds : ℕ) (me : Me (Option T) View) : Type 0 where
  pub first : IsFirst me.0.role
  pub closed : me.0.round.running ≡ false
  pub free : HoldsNone me
  pub cores_are : length me.0.round.cores ≡ cores
  pub rounds_are : me.0.round.rounds ≡ rounds

-- the slots of the cores below this number are empty
abbrev pub AreEmpty : ℕ → View → Type 0
AreEmpty count v = (core : ℕ) → core < count → IsEmpty (state_at v core).slot

module _ {T : Type 0} (turns : T → ℕ) (stem : T → List (List ℕ)) (sound : T → Type 0) where
  -- the piece was lent as it is known of its core
  pub record IsLent (t : CoreState) (piece : T) : Type 0 where
    pub full : IsFull t.slot
    pub turns_are : t.turns ≡ turns piece
    pub stem_is : t.stem ≡ stem piece
    pub is_sound : sound piece

  -- these pieces were lent, to this core and those after it
  abbrev pub AreLent : View → ℕ → List T → Type 0
  AreLent v core [] = Unit {0}
  AreLent v core (piece ∷ pieces) = IsLent (state_at v core) piece × AreLent v (core + 1) pieces

module _ {T : Type 0} (core_of turns : T → ℕ) (stem : T → List (List ℕ)) (settled : T → Type 0) where
  -- these pieces are those of this core and of those after it
  abbrev pub ArePieces : View → ℕ → List T → Type 0
  ArePieces v core [] = Unit {0}
  ArePieces v core (piece ∷ pieces) = IsPiece core_of turns stem settled core (state_at v core) 0 piece × ArePieces v (core + 1) pieces

-- the first seat of a board of so many cores between two rounds: all slots are empty
pub record IsIdle {T : Type 0} (cores : ℕ) (me : Me (Option T) View) : Type 0 where
  pub first : IsFirst me.0.role
  pub closed : me.0.round.running ≡ false
  pub claims_none : me.0.claim ≡ []
  pub has_none : length me.1 ≡ 0
  pub cores_are : length me.0.round.cores ≡ cores
  pub empty : AreEmpty cores me.0

-- that a role is the first has one proof at most
pub IsFirst-prop : (role : Role) → IsProp (IsFirst role)
IsFirst-prop First = Unit-prop
IsFirst-prop Other = λ a b. absurd a
IsFirst-prop Spent = λ a b. absurd a

-- that a slot is empty has one proof at most
pub IsEmpty-prop : (what : SlotState) → IsProp (IsEmpty what)
IsEmpty-prop Empty = Unit-prop
IsEmpty-prop Out = λ a b. absurd a
IsEmpty-prop Full = λ a b. absurd a
