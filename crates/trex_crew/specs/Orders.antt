-- The order of the works of a crew. Own.
use Rattle.std.specs.Prelude.{◌≡◌, ℕ, ◌+◌, List, [], ◌∷◌}

-- each work has the core that is its place, where the first has that of a place
abbrev pub AreInOrder : {T : Type 0} → (T → ℕ) → ℕ → List T → Type 0
AreInOrder core_of place [] = Unit {0}
AreInOrder core_of place (work ∷ works) = (core_of work ≡ place) × AreInOrder core_of (place + 1) works
