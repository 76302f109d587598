-- What is kept of the front of a list.
use Rattle.std.proofs.Common.{◌≡◌, ℕ, ◌+◌, ◌<◌, List, [], ◌∷◌, ◌++◌, length, get_or, map, take, Option, Some, None, option_to_list, refl, sym, ap, ◌∙◌}
use Rattle.std.specs.List.{filter_map}
use Rattle.std.proofs.lemmas.List.{get_or-map, length-map, map-append, take_more}
use Rattle.std.proofs.lemmas.List.Elements.{filter_map-append}

kept-one : {X Y : Type 0} (f : X → Option Y) (x : X) → filter_map f (x ∷ []) ≡ option_to_list (f x)
kept-one {Y = Y} f x = by_case (f x)
  where
    by_case : (o : Option Y) → filter_map (λ (q : Option Y). q) (o ∷ []) ≡ option_to_list o
    by_case None = refl
    by_case (Some y) = refl

-- one item more
pub kept-more : {A X Y : Type 0} (f : X → Option Y) (g : A → X) (items : List A) (at : ℕ) (item : A) → at < length items → item ≡ get_or items at item
    → filter_map f (take (at + 1) (map g items)) ≡ filter_map f (take at (map g items)) ++ option_to_list (f (g item))
kept-more f g items at item small is =
    let inside : at < length (map g items) = rw length-map small in
    ap (filter_map f) (take_more (map g items) at (g item) inside
    ∙ ap (λ x. take at (map g items) ++ x ∷ []) (get_or-map g items at item (g item) small ∙ ap g (sym is)))
    ∙ filter_map-append f (take at (map g items)) (g item ∷ []) ∙ ap (λ more. filter_map f (take at (map g items)) ++ more) (kept-one f (g item))

-- what is made of one item more
pub map-more : {A B C : Type 0} (f : B → C) (g : A → B) (items : List A) (at : ℕ) (item : A) → at < length items → item ≡ get_or items at item
    → map f (map g (take (at + 1) items)) ≡ map f (map g (take at items)) ++ f (g item) ∷ []
map-more f g items at item inside is =
    let front = take at items in
    ap (λ xs. map f (map g xs)) (take_more items at item inside ∙ ap (λ x. front ++ x ∷ []) (sym is))
    ∙ ap (map f) (map-append g front (item ∷ [])) ∙ map-append f (map g front) (g item ∷ [])
