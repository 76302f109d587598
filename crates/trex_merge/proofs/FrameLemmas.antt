-- Packets made of values, each with its value's key.
use Rattle.std.proofs.Common.{◌≡◌, Bool, true, false, cond, List, [], ◌∷◌, map, refl, ap, ◌∙◌}
use Rattle.std.specs.List.{AllByRecursion, filter}
use Rattle.trex_merge.specs.declared.key.Key.{Key}
use Rattle.trex_merge.specs.Order.{AreApart, AreDistinct, is_before, ordered, placed}

-- what is made of values is as distinct
pub distinct-map : {X Y : Type 0} (kx : X → Key) (ky : Y → Key) (f : X → Y) → ((x : X) → ky (f x) ≡ kx x) → (xs : List X) → AreDistinct kx xs → AreDistinct ky (map f xs)
distinct-map kx ky f same [] distinct = tt
distinct-map {X = X} kx ky f same (a ∷ rest) distinct = (each rest distinct.0, distinct-map kx ky f same rest distinct.1)
  where
    each : (xs : List X) → AllByRecursion (AreApart kx a) xs → AllByRecursion (AreApart ky (f a)) (map f xs)
    each [] apart = tt
    each (b ∷ xs) apart = (rw (same a, same b) apart.0, each xs apart.1)

map-placed : {X Y : Type 0} (kx : X → Key) (ky : Y → Key) (f : X → Y) → ((x : X) → ky (f x) ≡ kx x) → (a : X) (xs : List X)
    → map f (placed kx a xs) ≡ placed ky (f a) (map f xs)
map-placed kx ky f same a [] = refl
map-placed {Y = Y} kx ky f same a (b ∷ rest) =
    let later = map-placed kx ky f same a rest in
    rw (same a, same b) (elim (is_before (kx a) (kx b)) as (λ t. map f (cond t (a ∷ b ∷ rest) (b ∷ placed kx a rest)) ≡ cond t (f a ∷ f b ∷ map f rest) (f b ∷ placed ky (f a) (map f rest))) [
      | true ↦ refl
      | false ↦ ap (λ (l : List Y). f b ∷ l) later
    ])

-- what is made of values is in order as the values are
pub map-ordered : {X Y : Type 0} (kx : X → Key) (ky : Y → Key) (f : X → Y) → ((x : X) → ky (f x) ≡ kx x) → (xs : List X) → map f (ordered kx xs) ≡ ordered ky (map f xs)
map-ordered kx ky f same [] = refl
map-ordered kx ky f same (a ∷ rest) =
    map-placed kx ky f same a (ordered kx rest) ∙ ap (placed ky (f a)) (map-ordered kx ky f same rest)

-- a part of what is made of values is made of a part of them
pub map-filter : {X Y : Type 0} (f : X → Y) (p : X → Bool) (q : Y → Bool) → ((x : X) → q (f x) ≡ p x) → (xs : List X) → map f (filter p xs) ≡ filter q (map f xs)
map-filter f p q same [] = refl
map-filter {Y = Y} f p q same (a ∷ rest) =
    let later = map-filter f p q same rest in
    rw (same a) (elim (p a) as (λ t. map f (cond t (a ∷ filter p rest) (filter p rest)) ≡ cond t (f a ∷ filter q (map f rest)) (filter q (map f rest))) [
      | true ↦ ap (λ (l : List Y). f a ∷ l) later
      | false ↦ later
    ])
