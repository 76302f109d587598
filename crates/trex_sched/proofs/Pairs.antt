-- Relations between each element of a list and each later one.
use Rattle.std.proofs.Common.{◌≡◌, ℕ, zero, suc, ◌+◌, ◌<◌, ◌≤◌, Bool, true, false, cond, List, [], ◌∷◌, ◌++◌, map, refl, arith}
use Rattle.std.specs.List.{AllByRecursion, filter, flat_map, range_with_len}
use Rattle.trex_merge.specs.Order.{EachPair}
use Rattle.trex_merge.proofs.ListLemmas.{all-append, pairs-append}
use Rattle.trex_merge.proofs.OrderLemmas.{all_at}

-- what holds of each element that passes holds of each element that is kept
pub all_kept : {X : Type 0} (P : X → Type 0) (test : X → Bool) (xs : List X) → ((x : X) → test x ≡ true → P x) → AllByRecursion P (filter test xs)
all_kept P test [] each = tt
all_kept P test (a ∷ rest) each =
    let rest_all = all_kept P test rest each in
    elim (test a) as (λ t. test a ≡ t → AllByRecursion P (cond t (a ∷ filter test rest) (filter test rest))) [ true ↦ λ passes. (each a passes, rest_all) | false ↦ λ fails. rest_all ] refl

pub all_more : {X : Type 0} (P Q : X → Type 0) (xs : List X) → ((x : X) → P x → Q x) → AllByRecursion P xs → AllByRecursion Q xs
all_more P Q [] leads all = tt
all_more P Q (a ∷ rest) leads all = (leads a all.0, all_more P Q rest leads all.1)

pub all_flat : {X Y : Type 0} (P : X → Type 0) (Q : Y → Type 0) (f : X → List Y) (xs : List X) → ((x : X) → P x → AllByRecursion Q (f x)) → AllByRecursion P xs
    → AllByRecursion Q (flat_map f xs)
all_flat P Q f [] leads all = tt
all_flat P Q f (a ∷ rest) leads all = all-append Q (f a) (flat_map f rest) (leads a all.0) (all_flat P Q f rest leads all.1)

-- of each number of a range
pub all_range : {Y : Type 0} (Q : Y → Type 0) (f : ℕ → Y) (k n : ℕ) → ((i : ℕ) → k ≤ i → i < k + n → Q (f i)) → AllByRecursion Q (map f (range_with_len k n))
all_range Q f k zero each = tt
all_range Q f k (suc n) each = (each k (omega arith) (omega arith), all_range Q f (k + 1) n (λ i low high. each i (omega arith) (omega arith)))

pub pairs_more : {X : Type 0} (R S : X → X → Type 0) (xs : List X) → ((a b : X) → R a b → S a b) → EachPair R xs → EachPair S xs
pairs_more R S [] leads pairs = tt
pairs_more R S (a ∷ rest) leads pairs = (all_more (R a) (S a) rest (leads a) pairs.0, pairs_more R S rest leads pairs.1)

-- between the elements of two lists
pub pairs_append : {X : Type 0} (R : X → X → Type 0) (xs ys : List X) → EachPair R xs → EachPair R ys → AllByRecursion (λ x. AllByRecursion (R x) ys) xs
    → EachPair R (xs ++ ys)
pairs_append R xs ys mine other across =
    pairs-append R xs ys mine other (λ x y here there. all_at (R x) ys y (all_at (λ x. AllByRecursion (R x) ys) xs x across here) there)

-- between each number of a range and each later one
pub pairs_range : {Y : Type 0} (R : Y → Y → Type 0) (f : ℕ → Y) (k n : ℕ) → ((i j : ℕ) → i < j → j < k + n → R (f i) (f j)) → EachPair R (map f (range_with_len k n))
pairs_range R f k zero each = tt
pairs_range R f k (suc n) each =
    (all_range (R (f k)) f (k + 1) n (λ j low high. each k j (omega arith) (omega arith)), pairs_range R f (k + 1) n (λ i j less high. each i j less (omega arith)))

-- one element before what each element of a list gives
before_flat : {X Y : Type 0} (P Q : X → Type 0) (S : Y → Type 0) (f : X → List Y) (xs : List X) → ((x : X) → P x → Q x → AllByRecursion S (f x))
    → AllByRecursion P xs → AllByRecursion Q xs → AllByRecursion S (flat_map f xs)
before_flat P Q S f [] leads all related = tt
before_flat P Q S f (a ∷ rest) leads all related =
    all-append S (f a) (flat_map f rest) (leads a all.0 related.0) (before_flat P Q S f rest leads all.1 related.1)

-- Each element of a list before what each element of another gives.
each_before_flat : {X Y : Type 0} (P Q : X → Type 0) (S : Y → Y → Type 0) (f : X → List Y) (ys : List Y) (xs : List X)
    → ((x : X) → P x → Q x → AllByRecursion (λ y. AllByRecursion (S y) (f x)) ys) → AllByRecursion P xs → AllByRecursion Q xs
    → AllByRecursion (λ y. AllByRecursion (S y) (flat_map f xs)) ys
each_before_flat P Q S f [] xs leads all related = tt
each_before_flat P Q S f (y ∷ ys) xs leads all related = (
  before_flat P Q (S y) f xs (λ x p q. (leads x p q).0) all related,
  each_before_flat P Q S f ys xs (λ x p q. (leads x p q).1) all related,
)

-- Between what each element of a list gives and what each later one gives, for elements of a kind.
pub pairs_flat : {X Y : Type 0} (P : X → Type 0) (R : X → X → Type 0) (S : Y → Y → Type 0) (f : X → List Y) (xs : List X)
    → ((x : X) → P x → EachPair S (f x)) → ((x x' : X) → P x → P x' → R x x' → AllByRecursion (λ y. AllByRecursion (S y) (f x')) (f x))
    → AllByRecursion P xs → EachPair R xs → EachPair S (flat_map f xs)
pairs_flat P R S f [] inside across all pairs = tt
pairs_flat P R S f (a ∷ rest) inside across all pairs =
    pairs_append S (f a) (flat_map f rest) (inside a all.0) (pairs_flat P R S f rest inside across all.1 pairs.1)
    (each_before_flat P (R a) S f (f a) rest (λ x' p r. across a x' all.0 p r) all.1 pairs.0)
