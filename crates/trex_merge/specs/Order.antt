-- The order of packets, for any values with a key. Own.
use Rattle.std.specs.Prelude.{◌≡◌, ◌==◌, ◌&&◌, ◌||◌, nat_lt, if◌then◌else◌, Bool, IsTrue, ◌⊎◌, List, [], ◌∷◌, ◌++◌}
use Rattle.std.specs.List.{AllByRecursion}
use Rattle.trex_merge.specs.declared.key.Key.{Key}

-- by time, then by stream, then by number
abbrev pub is_before : Key → Key → Bool
is_before a b =
    nat_lt a.time b.time
    || ((a.time == b.time) && (nat_lt a.stream b.stream || ((a.stream == b.stream) && nat_lt a.number b.number)))

-- a value put at its place
abbrev pub placed : {X : Type 0} → (X → Key) → X → List X → List X
placed key a [] = a ∷ []
placed key a (b ∷ rest) = if is_before (key a) (key b) then a ∷ b ∷ rest else b ∷ placed key a rest

-- the values in order
abbrev pub ordered : {X : Type 0} → (X → Key) → List X → List X
ordered key [] = []
ordered key (a ∷ rest) = placed key a (ordered key rest)

-- a relation holds between each value of a list and each later one
abbrev pub EachPair : {X : Type 0} → (X → X → Type 0) → List X → Type 0
EachPair R [] = Unit {0}
EachPair R (a ∷ rest) = AllByRecursion (R a) rest × EachPair R rest

-- one value comes before another
abbrev pub ComesBefore : {X : Type 0} → (X → Key) → X → X → Type 0
ComesBefore key a b = IsTrue (is_before (key a) (key b))

-- two values don't have both one stream and one number
abbrev pub AreApart : {X : Type 0} → (X → Key) → X → X → Type 0
AreApart key a b = ¬ (((key a).stream ≡ (key b).stream) × ((key a).number ≡ (key b).number))

-- each value comes before all later ones
abbrev pub IsRising : {X : Type 0} → (X → Key) → List X → Type 0
IsRising key xs = EachPair (ComesBefore key) xs

-- no two values have one stream and one number
abbrev pub AreDistinct : {X : Type 0} → (X → Key) → List X → Type 0
AreDistinct key xs = EachPair (AreApart key) xs

-- the list has that value
abbrev pub Has : {X : Type 0} → List X → X → Type 0
Has [] x = ⊥
Has (a ∷ rest) x = (x ≡ a) ⊎ Has rest x

-- two lists have the same values
abbrev pub HaveSame : {X : Type 0} → List X → List X → Type 0
HaveSame {X = X} xs ys = (x : X) → (Has xs x → Has ys x) × (Has ys x → Has xs x)

-- the values of some lists
abbrev pub joined : {X : Type 0} → List (List X) → List X
joined [] = []
joined (xs ∷ lists) = xs ++ joined lists

-- the first value of a list, where there is one, isn't before a value
abbrev pub BeginsNotBefore : {X : Type 0} → (X → Key) → X → List X → Type 0
BeginsNotBefore key x [] = Unit {0}
BeginsNotBefore key x (head ∷ rest) = ¬ ComesBefore key head x
