-- What is noted of the positions that chains come to (own).
use Rattle.std.specs.Prelude.{◌≡◌, ℕ, ◌+◌, ◌≤◌, ◌<◌, List, [], ◌∷◌, length, slice_index_or, Option, Some}
use Rattle.trex_profile.specs.declared.chains.reach.Reach.{Reach}
use Rattle.trex_profile.specs.declared.chains.reach.Reach.TheVariants.{Nowhere, From, Shared}
use Rattle.trex_profile.specs.Visits.{link_at, reach_at}

-- what is noted of a position
abbrev pub noted : List Reach → ℕ → Reach
noted all at = slice_index_or all at Nowhere

-- the same with one more start
abbrev pub with_start : ℕ → Reach → Reach
with_start start Nowhere = From start
with_start start (From other) = Shared
with_start start Shared = Shared

-- what follows a shared position is shared
abbrev pub IsClosed : List (Option ℕ) → List Reach → Type 0
IsClosed links all = (at next : ℕ) → link_at links at ≡ Some next → noted all at ≡ Shared → noted all next ≡ Shared

-- of each position it is noted from which of these it is reached
pub record AreReached (links : List (Option ℕ)) (starts : List ℕ) (all : List Reach) : Type 0 where
  pub same : length all ≡ length links
  pub each : (at : ℕ) → at < length links → noted all at ≡ reach_at links starts at

-- positions that rise, each at least low and below n
abbrev pub AreRising : ℕ → ℕ → List ℕ → Type 0
AreRising n low [] = Unit {0}
AreRising n low (start ∷ starts) = (low ≤ start) × (start < n) × AreRising n (start + 1) starts
