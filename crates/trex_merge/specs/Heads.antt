-- The least of the first values of some lists, by the order of packets. Own.
use Rattle.std.specs.Prelude.{ℕ, ◌+◌, if◌then◌else◌, Option, None, Some, List, [], ◌∷◌}
use Rattle.trex_merge.specs.declared.key.Key.{Key}
use Rattle.trex_merge.specs.declared.place.Place.{Place}
use Rattle.trex_merge.specs.Order.{is_before}

-- the first value of the list at a place, where it has one
abbrev pub head_at : {X : Type 0} → (X → Key) → ℕ → List X → Option Place
head_at key at [] = None
head_at key at (x ∷ rest) = Some (record { key = key x; feed = at })

-- of two places the one whose value comes before the other's, and the first where neither does
abbrev pub earlier_of : Option Place → Option Place → Option Place
earlier_of None other = other
earlier_of (Some one) None = Some one
earlier_of (Some one) (Some other) = if is_before other.key one.key then Some other else Some one

-- the place of the least first value, where the first list stands at a place
abbrev pub least_from : {X : Type 0} → (X → Key) → ℕ → List (List X) → Option Place
least_from key at [] = None
least_from key at (xs ∷ lists) = earlier_of (head_at key at xs) (least_from key (at + 1) lists)
