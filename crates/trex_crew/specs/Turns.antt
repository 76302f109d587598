-- What a turn leaves of a work, and a round of all works. Own.
use Rattle.std.specs.Prelude.{◌≡◌, ℕ, ◌+◌, List, [], ◌∷◌}

module _ {T : Type 0} (core_of turns : T → ℕ) (stem : T → List (List ℕ)) (settled : T → Type 0) where
  -- A work took one turn: it has its core and its stem, one turn more, and is settled.
  pub record TookTurn (old new : T) : Type 0 where
    pub core_is : core_of new ≡ core_of old
    pub turns_are : turns new ≡ turns old + 1
    pub stem_is : stem new ≡ stem old
    pub settles : settled new

  -- each work took one turn, and there are no others
  abbrev pub TookTurns : List T → List T → Type 0
  TookTurns [] [] = Unit {0}
  TookTurns [] (new ∷ all_new) = ⊥
  TookTurns (old ∷ all_old) [] = ⊥
  TookTurns (old ∷ all_old) (new ∷ all_new) = TookTurn old new × TookTurns all_old all_new
