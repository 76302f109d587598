-- Passing the least first value of many rising lists.
use Rattle.std.proofs.Common.{◌≡◌, ℕ, zero, suc, ◌⊎◌, inl, inr, List, [], ◌∷◌, ◌++◌, Some, refl, sym, ap, ◌∙◌, subst, set}
use Rattle.std.specs.List.{AllByRecursion, slice_get}
use Rattle.trex_merge.specs.declared.key.Key.{Key}
use Rattle.trex_merge.specs.Order.{AreApart, ComesBefore, ordered, EachPair, IsRising, AreDistinct, Has, HaveSame, joined, BeginsNotBefore}
use Rattle.trex_merge.proofs.KeyLemmas.{before_trans, one_first}
use Rattle.trex_merge.proofs.OrderLemmas.{all_at, all_from, ordered_first}

-- ---- two lists joined

-- two lists joined have what either has
pub has-append : {X : Type 0} (xs ys : List X) (x : X) → (Has (xs ++ ys) x → Has xs x ⊎ Has ys x) × (Has xs x ⊎ Has ys x → Has (xs ++ ys) x)
has-append [] ys x = ((λ h. inr h), (λ h. elim h [ inl none ↦ absurd none | inr there ↦ there ]))
has-append (a ∷ rest) ys x =
    let before = has-append rest ys x in (
      (λ h. elim h [ inl here ↦ inl (inl here) | inr later ↦ elim (before.0 later) [ inl mine ↦ inl (inr mine) | inr other ↦ inr other ] ]),
      (λ h. elim h [ inl mine ↦ elim mine [ inl here ↦ inl here | inr later ↦ inr (before.1 (inl later)) ] | inr other ↦ inr (before.1 (inr other)) ]),
    )

-- what holds of each value of two lists holds of each value of both
pub all-append : {X : Type 0} (P : X → Type 0) (xs ys : List X) → AllByRecursion P xs → AllByRecursion P ys → AllByRecursion P (xs ++ ys)
all-append P [] ys mine other = other
all-append P (a ∷ rest) ys mine other = (mine.0, all-append P rest ys mine.1 other)

pub all-append_left : {X : Type 0} (P : X → Type 0) (xs ys : List X) → AllByRecursion P (xs ++ ys) → AllByRecursion P xs
all-append_left P [] ys all = tt
all-append_left P (a ∷ rest) ys all = (all.0, all-append_left P rest ys all.1)

pub all-append_right : {X : Type 0} (P : X → Type 0) (xs ys : List X) → AllByRecursion P (xs ++ ys) → AllByRecursion P ys
all-append_right P [] ys all = all
all-append_right P (a ∷ rest) ys all = all-append_right P rest ys all.1

pub pairs-append_right : {X : Type 0} (R : X → X → Type 0) (xs ys : List X) → EachPair R (xs ++ ys) → EachPair R ys
pairs-append_right R [] ys pairs = pairs
pairs-append_right R (a ∷ rest) ys pairs = pairs-append_right R rest ys pairs.1

-- a relation of each pair of two lists joined holds between each value of the first and each of the second
pub pairs_across : {X : Type 0} (R : X → X → Type 0) (xs ys : List X) (y : X) → EachPair R (xs ++ ys) → Has ys y → AllByRecursion (λ x. R x y) xs
pairs_across R [] ys y pairs has = tt
pairs_across R (a ∷ rest) ys y pairs has = (all_at (R a) (rest ++ ys) y pairs.0 ((has-append rest ys y).1 (inr has)), pairs_across R rest ys y pairs.1 has)

-- two lists joined, where it holds in each and between the two
pub pairs-append : {X : Type 0} (R : X → X → Type 0) (xs ys : List X) → EachPair R xs → EachPair R ys → ((x y : X) → Has xs x → Has ys y → R x y)
    → EachPair R (xs ++ ys)
pairs-append R [] ys mine other across = other
pairs-append R (a ∷ rest) ys mine other across = (
  all-append (R a) rest ys mine.0 (all_from (R a) ys (λ y h. across a y (inl refl) h)),
  pairs-append R rest ys mine.1 other (λ x y h. across x y (inr h)),
)

-- the second list may lose values
pub pairs-append_less : {X : Type 0} (R : X → X → Type 0) (xs ys zs : List X) → EachPair R (xs ++ ys) → EachPair R zs
    → ((z : X) → Has zs z → Has ys z) → EachPair R (xs ++ zs)
pairs-append_less R [] ys zs pairs less within = less
pairs-append_less R (a ∷ rest) ys zs pairs less within = (
  all-append (R a) rest zs (all-append_left (R a) rest ys pairs.0) (all_from (R a) zs (λ z h. all_at (R a) ys z (all-append_right (R a) rest ys pairs.0) (within z h))),
  pairs-append_less R rest ys zs pairs.1 less within,
)

-- ---- one list loses its first value

-- The list at a place begins with a value, and rest is what comes after it.
pub has-joined : {X : Type 0} (lists : List (List X)) (at : ℕ) (x : X) (rest : List X) → slice_get lists at ≡ Some (x ∷ rest)
    → HaveSame (joined lists) (x ∷ joined (set lists at rest))
has-joined [] at x rest there y = cc
has-joined {X = X} (xs ∷ lists) zero x rest there y =
    let same : xs ≡ x ∷ rest = cc in
    subst (λ (l : List X). (Has (l ++ joined lists) y → Has (x ∷ (rest ++ joined lists)) y) × (Has (x ∷ (rest ++ joined lists)) y → Has (l ++ joined lists) y)) (sym same)
    ((λ h. h), (λ h. h))
has-joined (xs ∷ lists) (suc at) x rest there y =
    let before = has-joined lists at x rest there y in
    let old = has-append xs (joined lists) y in
    let new = has-append xs (joined (set lists at rest)) y in (
      (λ h. elim (old.0 h) [
        | inl mine ↦ inr (new.1 (inl mine))
        | inr other ↦ elim (before.0 other) [ inl here ↦ inl here | inr later ↦ inr (new.1 (inr later)) ]
      ]),
      (λ h. elim h [
        | inl here ↦ old.1 (inr (before.1 (inl here)))
        | inr later ↦ elim (new.0 later) [ inl mine ↦ old.1 (inl mine) | inr other ↦ old.1 (inr (before.1 (inr other))) ]
      ]),
    )

-- the others are as distinct as before
pub pairs-joined : {X : Type 0} (R : X → X → Type 0) (lists : List (List X)) (at : ℕ) (x : X) (rest : List X) → slice_get lists at ≡ Some (x ∷ rest)
    → EachPair R (joined lists) → EachPair R (joined (set lists at rest))
pairs-joined R [] at x rest there pairs = tt
pairs-joined {X = X} R (xs ∷ lists) zero x rest there pairs =
    let same : xs ≡ x ∷ rest = cc in
    (subst (λ (l : List X). EachPair R (l ++ joined lists)) same pairs).1
pairs-joined R (xs ∷ lists) (suc at) x rest there pairs =
    pairs-append_less R xs (joined lists) (joined (set lists at rest)) pairs
    (pairs-joined R lists at x rest there (pairs-append_right R xs (joined lists) pairs))
    (λ z h. (has-joined lists at x rest there z).1 (inr h))

-- a relation of each pair, of which the order doesn't matter, holds between the value that goes and all others
pub pairs_with_first : {X : Type 0} (R : X → X → Type 0) → ((a b : X) → R a b → R b a) → (lists : List (List X)) (at : ℕ) (x : X) (rest : List X)
    → slice_get lists at ≡ Some (x ∷ rest) → EachPair R (joined lists) → AllByRecursion (R x) (joined (set lists at rest))
pairs_with_first R turned [] at x rest there pairs = tt
pairs_with_first {X = X} R turned (xs ∷ lists) zero x rest there pairs =
    let same : xs ≡ x ∷ rest = cc in
    (subst (λ (l : List X). EachPair R (l ++ joined lists)) same pairs).0
pairs_with_first {X = X} R turned (xs ∷ lists) (suc at) x rest there pairs =
    let among : Has (joined lists) x = (has-joined lists at x rest there x).1 (inl refl) in
    let across = pairs_across R xs (joined lists) x pairs among in
    all-append (R x) xs (joined (set lists at rest))
    (all_from (R x) xs (λ y h. turned y x (all_at (λ z. R z x) xs y across h)))
    (pairs_with_first R turned lists at x rest there (pairs-append_right R xs (joined lists) pairs))

-- each list still rises
pub rising-set : {X : Type 0} (key : X → Key) (lists : List (List X)) (at : ℕ) (x : X) (rest : List X) → slice_get lists at ≡ Some (x ∷ rest)
    → AllByRecursion (IsRising key) lists → AllByRecursion (IsRising key) (set lists at rest)
rising-set key [] at x rest there rising = tt
rising-set {X = X} key (xs ∷ lists) zero x rest there rising =
    let same : xs ≡ x ∷ rest = cc in
    ((subst (IsRising key) same rising.0).1, rising.1)
rising-set key (xs ∷ lists) (suc at) x rest there rising = (rising.0, rising-set key lists at x rest there rising.1)

-- ---- the least first value stands before all others

-- a value stands before all of a rising list that doesn't begin before it
before_list : {X : Type 0} (key : X → Key) (x : X) (xs : List X) → IsRising key xs → BeginsNotBefore key x xs
    → AllByRecursion (AreApart key x) xs
    → AllByRecursion (ComesBefore key x) xs
before_list key x [] rising begins apart = tt
before_list {X = X} key x (head ∷ rest) rising begins apart =
    let P : X → Type 0 = ComesBefore key x in
    let first : P head = elim (one_first (key x) (key head) apart.0) [ inl known ↦ known | inr other ↦ absurd (begins other) ] in
    (first, all_from P rest (λ y h. before_trans (key x) (key head) (key y) first (all_at (ComesBefore key head) rest y rising.0 h)))

before_lists : {X : Type 0} (key : X → Key) (x : X) (lists : List (List X)) → AllByRecursion (IsRising key) lists → AllByRecursion (BeginsNotBefore key x) lists
    → AllByRecursion (AreApart key x) (joined lists)
    → AllByRecursion (ComesBefore key x) (joined lists)
before_lists key x [] rising begins apart = tt
before_lists {X = X} key x (xs ∷ lists) rising begins apart =
    let P : X → Type 0 = ComesBefore key x in
    let A : X → Type 0 = AreApart key x in
    all-append P xs (joined lists) (before_list key x xs rising.0 begins.0 (all-append_left A xs (joined lists) apart))
    (before_lists key x lists rising.1 begins.1 (all-append_right A xs (joined lists) apart))

-- the value that goes stands before all others
pub before_others : {X : Type 0} (key : X → Key) (lists : List (List X)) (at : ℕ) (x : X) (rest : List X) → slice_get lists at ≡ Some (x ∷ rest)
    → AllByRecursion (IsRising key) lists → AllByRecursion (BeginsNotBefore key x) lists
    → AllByRecursion (AreApart key x) (joined (set lists at rest))
    → AllByRecursion (ComesBefore key x) (joined (set lists at rest))
before_others key [] at x rest there rising begins apart = tt
before_others {X = X} key (xs ∷ lists) zero x rest there rising begins apart =
    let same : xs ≡ x ∷ rest = cc in
    let P : X → Type 0 = ComesBefore key x in
    let A : X → Type 0 = AreApart key x in
    all-append P rest (joined lists) (subst (IsRising key) same rising.0).0
    (before_lists key x lists rising.1 begins.1 (all-append_right A rest (joined lists) apart))
before_others {X = X} key (xs ∷ lists) (suc at) x rest there rising begins apart =
    let P : X → Type 0 = ComesBefore key x in
    let A : X → Type 0 = AreApart key x in
    let others = joined (set lists at rest) in
    all-append P xs others (before_list key x xs rising.0 begins.0 (all-append_left A xs others apart))
    (before_others key lists at x rest there rising.1 begins.1 (all-append_right A xs others apart))

-- passing the least first value leaves what comes after it
pub ordered_least : {X : Type 0} (key : X → Key) (lists : List (List X)) (at : ℕ) (x : X) (rest : List X) → slice_get lists at ≡ Some (x ∷ rest)
    → AllByRecursion (IsRising key) lists → AreDistinct key (joined lists) → AllByRecursion (BeginsNotBefore key x) lists
    → ordered key (joined lists) ≡ x ∷ ordered key (joined (set lists at rest))
ordered_least {X = X} key lists at x rest there rising distinct begins =
    let R : X → X → Type 0 = AreApart key in
    let apart = pairs_with_first R (λ a b unequal same. unequal (sym same.0, sym same.1)) lists at x rest there distinct in
    ordered_first key x (joined lists) (joined (set lists at rest)) distinct (pairs-joined R lists at x rest there distinct)
    (has-joined lists at x rest there)
    (before_others key lists at x rest there rising begins apart)

-- empty lists have nothing
pub joined_none : {X : Type 0} (lists : List (List X)) → AllByRecursion (λ xs. xs ≡ []) lists → joined lists ≡ []
joined_none [] none = refl
joined_none {X = X} (xs ∷ lists) none = ap (λ (l : List X). l ++ joined lists) none.0 ∙ joined_none lists none.1
