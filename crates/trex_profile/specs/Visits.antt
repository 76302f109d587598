-- Which streams a chain visits, by their positions (own). Each position is linked to the one that follows it, or to none.
use Rattle.std.specs.Prelude.{ℕ, zero, suc, ◌<◌, nat_eq, List, [], ◌∷◌, ◌++◌, length, filter, position, slice_get, Bool, true, false, Option, None, Some, IfSome, option_and_then, if◌then◌else◌}
use Rattle.std.specs.List.{list_any}
use Rattle.trex_profile.specs.declared.chains.reach.Reach.{Reach}
use Rattle.trex_profile.specs.declared.chains.reach.Reach.TheVariants.{Nowhere, From, Shared}

-- the positions in the order in which a chain comes to them, each once, and the place in that order to which it comes back
pub record Round : Type 0 where
  pub order : List ℕ
  pub back : Option ℕ

-- a link leads to one of so many positions
abbrev pub IsLink : ℕ → Option ℕ → Type 0
IsLink n link = IfSome link (λ next. next < n)

-- the position that follows
abbrev pub link_at : List (Option ℕ) → ℕ → Option ℕ
link_at links at = option_and_then (λ next. next) (slice_get links at)

-- a position is among these
abbrev pub has : List ℕ → ℕ → Bool
has order at = list_any (nat_eq at) order

-- a chain ends where nothing follows
abbrev pub unless_last : List ℕ → Option ℕ → (ℕ → Round) → Round
unless_last order None further = record { order = order; back = None }
unless_last order (Some next) further = further next

-- at most n further positions, from one on, after those that were visited
unfoldable pub visits : ℕ → List (Option ℕ) → List ℕ → ℕ → Round
visits zero links order at = record { order = order; back = None }
visits (suc n) links order at =
    if has order at then record { order = order; back = position (nat_eq at) order }
    else unless_last (order ++ at ∷ []) (link_at links at) (λ next. visits n links (order ++ at ∷ []) next)

-- The round of the chain that begins at a position. No order of distinct positions is longer than their number.
abbrev pub round_of : List (Option ℕ) → ℕ → Round
round_of links start = visits (suc (length links)) links [] start

-- a chain that begins at a position comes to another
abbrev pub comes_to : List (Option ℕ) → ℕ → ℕ → Bool
comes_to links at start = has (round_of links start).order at

-- whether a position is reached from none, from one, or from several
abbrev pub reach_of : List ℕ → Reach
reach_of [] = Nowhere
reach_of (start ∷ []) = From start
reach_of (start ∷ other ∷ starts) = Shared

-- from which of these a position is reached
abbrev pub reach_at : List (Option ℕ) → List ℕ → ℕ → Reach
reach_at links starts at = reach_of (filter (comes_to links at) starts)

abbrev pub is_shared : Reach → Bool
is_shared Nowhere = false
is_shared (From start) = false
is_shared Shared = true
