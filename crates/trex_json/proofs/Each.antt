-- One more item of an array is read.
use Rattle.std.proofs.Common.{◌≡◌, ℕ, suc, ◌+◌, ◌<◌, List, [], ◌∷◌, ◌++◌, length, get_or, map, drop, take, Option, Some, None, option_map, option_and_then, refl, sym, ap, ◌∙◌, append_assoc, add-one}
use Rattle.std.proofs.Math.Seq.{drop-cons}
use Rattle.std.proofs.lemmas.List.{map-append, take_more}
use Rattle.serde_json.specs.Data.{Data}
use Rattle.trex_json.specs.Kinds.{numbers_of, whole}

-- what is made of the items so far and of one more is what is meant by them
pub map-one_more : {V X Y : Type 0} (made : X → Y) (meant : Data → Y) (view : V → Data) (items : List V) (at : ℕ) (item : V) (xs new : List X) (x : X)
    → at < length items → item ≡ get_or items at item → new ≡ xs ++ x ∷ [] → map made xs ≡ map meant (map view (take at items)) → meant (view item) ≡ made x
    → map made new ≡ map meant (map view (take (at + 1) items))
map-one_more made meant view items at item xs new x inside is pushed earlier same =
    let front = take at items in
    ap (map made) pushed ∙ map-append made xs (x ∷ []) ∙ ap (λ ys. ys ++ made x ∷ []) earlier
    ∙ ap (λ y. map meant (map view front) ++ y ∷ []) (sym same)
    ∙ sym (ap (λ vs. map meant (map view vs)) (take_more items at item inside ∙ ap (λ v. front ++ v ∷ []) (sym is))
    ∙ ap (map meant) (map-append view front (item ∷ [])) ∙ map-append meant (map view front) (view item ∷ []))

-- the numbers of an array from a place on, by the one that stands there
numbers_of-at : {V : Type 0} (greatest : ℕ) (view : V → Data) (items : List V) (at : ℕ) (item : V) (found : Option ℕ)
    → at < length items → item ≡ get_or items at item → whole greatest (view item) ≡ found
    → numbers_of greatest (map view (drop at items)) ≡ option_and_then (λ n. option_map (λ ns. n ∷ ns) (numbers_of greatest (map view (drop (at + 1) items)))) found
numbers_of-at greatest view items at item found inside is same =
    let rest = numbers_of greatest (map view (drop (suc at) items)) in
    let next : at + 1 ≡ suc at = add-one at in
    ap (λ vs. numbers_of greatest (map view vs)) (drop-cons items at item inside)
    ∙ ap (λ v. option_and_then (λ n. option_map (λ ns. n ∷ ns) rest) (whole greatest (view v))) (sym is)
    ∙ ap (option_and_then (λ n. option_map (λ ns. n ∷ ns) rest)) same
    ∙ ap (λ k. option_and_then (λ n. option_map (λ ns. n ∷ ns) (numbers_of greatest (map view (drop k items)))) found) (sym next)

-- the numbers of an array, where there is one more
pub numbers_of-one_more : {V : Type 0} (greatest : ℕ) (view : V → Data) (items : List V) (at : ℕ) (item : V) (xs new : List ℕ) (x : ℕ)
    → at < length items → item ≡ get_or items at item → new ≡ xs ++ x ∷ [] → whole greatest (view item) ≡ Some x
    → option_map (λ rest. new ++ rest) (numbers_of greatest (map view (drop (at + 1) items))) ≡ option_map (λ rest. xs ++ rest) (numbers_of greatest (map view (drop at items)))
numbers_of-one_more greatest view items at item xs new x inside is pushed same =
    let rest = numbers_of greatest (map view (drop (at + 1) items)) in
    ap (λ front. option_map (λ r. front ++ r) rest) pushed ∙ behind rest
    ∙ sym (ap (option_map (λ r. xs ++ r)) (numbers_of-at greatest view items at item (Some x) inside is same))
  where
    behind : (rest : Option (List ℕ)) → option_map (λ r. (xs ++ x ∷ []) ++ r) rest ≡ option_map (λ r. xs ++ r) (option_map (λ ns. x ∷ ns) rest)
    behind None = refl
    behind (Some ns) = ap Some (append_assoc xs (x ∷ []) ns)

-- there are none where an item is none
pub numbers_of-none : {V : Type 0} (greatest : ℕ) (view : V → Data) (items : List V) (at : ℕ) (item : V) (xs : List ℕ)
    → at < length items → item ≡ get_or items at item → whole greatest (view item) ≡ None
    → option_map (λ rest. xs ++ rest) (numbers_of greatest (map view (drop at items))) ≡ None
numbers_of-none greatest view items at item xs inside is same =
    ap (option_map (λ r. xs ++ r)) (numbers_of-at greatest view items at item None inside is same)
