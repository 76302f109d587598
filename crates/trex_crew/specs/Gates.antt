-- What a gate tells of its entries. Own.
use Rattle.std.specs.Prelude.{◌≡◌, ℕ, List, [], ◌∷◌, ◌++◌, if◌then◌else◌, Option, None, Some, Bool}
use Rattle.std.specs.List.{AllByRecursion}

-- A gate was entered: it tells nothing, or it told its entries before and tells them with this one at the end.
abbrev pub HasEntered : Option (List (ℕ × ℕ)) → Option (List (ℕ × ℕ)) → ℕ → ℕ → Type 0
HasEntered old None round core = Unit {0}
HasEntered None (Some new) round core = ⊥
HasEntered (Some old) (Some new) round core = new ≡ old ++ (round, core) ∷ []

-- The entry that a gate tells last, where it tells, is this one.
abbrev pub LastIs : Option (List (ℕ × ℕ)) → ℕ → ℕ → Type 0
LastIs None round core = Unit {0}
LastIs (Some entries) round core = (before : List (ℕ × ℕ)) × (entries ≡ before ++ (round, core) ∷ [])

-- what a gate with a list keeps
pub record ListOf : Type 0 where
  pub entries : List (ℕ × ℕ)
  pub room : ℕ
  pub over : Bool

-- It tells its list, unless there were more entries than there is room for.
abbrev pub told_by : ListOf → Option (List (ℕ × ℕ))
told_by gate = if gate.over then None else Some gate.entries

-- it tells its entries
abbrev pub Tells : Option (List (ℕ × ℕ)) → Type 0
Tells None = ⊥
Tells (Some entries) = Unit {0}

-- all gates tell
abbrev pub AllTell : {G : Type 0} → (G → Option (List (ℕ × ℕ))) → List G → Type 0
AllTell entries gates = AllByRecursion (λ gate. Tells (entries gate)) gates
