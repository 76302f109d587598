-- A lane that was sorted rises, and its copies stay apart.
use Rattle.std.proofs.Common.{◌≡◌, ℕ, suc, ◌+◌, inl, inr, false, nat_eq, List, [], ◌∷◌, get_or, map, refl, subst, arith}
use Rattle.std.proofs.lemmas.Bool.Decides.{eqb_tells, nat_tests}
use Rattle.std.proofs.lemmas.List.Sorted.{IsPermutation-map}
use Rattle.std.proofs.lemmas.Map.Keys.{IsDistinct-IsPermutation}
use Rattle.std.specs.List.{AllByRecursion, IsDistinct}
use Rattle.std.specs.List.Sorted.{IsPermutation, IsSorted}
use Rattle.std.specs.Ordering.{is_lt, nat_cmp, ordering_then}
use Rattle.std.specs.declared.cmp.Ordering.{Ordering}
use Rattle.trex_merge.specs.declared.key.Key.{Key}
use Rattle.trex_merge.specs.Order.{AreApart, AreDistinct, ComesBefore, IsRising}
use Rattle.trex_merge.proofs.KeyLemmas.{before_is, before_trans, by_number, by_stream, by_time, one_first}
use Rattle.trex_merge.proofs.OrderLemmas.{all_at, all_from}
use Rattle.trex_wire.specs.declared.lanes.Due.{Due}
use Rattle.trex_wire.specs.Lanes.{key_in}

-- the order of a lane
abbrev pub due_cmp : Due → Due → Ordering
due_cmp x y =
    ordering_then (nat_cmp x.time y.time) (ordering_then (nat_cmp x.place y.place) (ordering_then (nat_cmp x.flow y.flow) (ordering_then (nat_cmp x.sequence y.sequence) (nat_cmp x.sent y.sent))))

module _ (copy : ℕ) where
  -- ---- sorted copies rise

  -- the next copy doesn't come before
  not_before : (a b : Due) → is_lt (due_cmp b a) ≡ false → ComesBefore (λ k. k) (key_in copy b) (key_in copy a) → ⊥
  not_before a b sorted before =
      elim (before_is (key_in copy b) (key_in copy a) before) [
        | by_time earlier ↦ absurd (grind (arith, nat_tests, sorted))
        | by_stream same lower ↦ omega arith
        | by_number same stream less ↦ absurd (grind (arith, nat_tests, sorted))
      ]

  sorted_tail : (a : Due) (rest : List Due) → IsSorted due_cmp (a ∷ rest) → IsSorted due_cmp rest
  sorted_tail a rest sorted = λ k d low high.
      let next : suc k + 1 ≡ suc (k + 1) = omega arith in
      subst (λ (n : ℕ). is_lt (due_cmp (get_or (a ∷ rest) n d) (get_or rest k d)) ≡ false) next (sorted (suc k) d (omega arith) (omega (arith, high)))

  pub rising_from_sorted : (dues : List Due) → IsSorted due_cmp dues → AreDistinct (λ k. k) (map (key_in copy) dues) → IsRising (λ k. k) (map (key_in copy) dues)
  rising_from_sorted [] sorted distinct = tt
  rising_from_sorted (a ∷ []) sorted distinct = (tt, tt)
  rising_from_sorted (a ∷ b ∷ rest) sorted distinct =
      let later = rising_from_sorted (b ∷ rest) (sorted_tail a (b ∷ rest) sorted) distinct.1 in
      let first : ComesBefore (λ (k : Key). k) (key_in copy a) (key_in copy b) = elim (one_first (key_in copy a) (key_in copy b) distinct.0.0) [
        | inl known ↦ known
        | inr other ↦ absurd (not_before a b (sorted 0 a (omega arith) (omega arith)) other)
      ] in
      let P : Key → Type 0 = ComesBefore (λ k. k) (key_in copy a) in
      ((first, all_from P (map (key_in copy) rest) (λ y has. before_trans (key_in copy a) (key_in copy b) y first (all_at (ComesBefore (λ k. k) (key_in copy b)) (map (key_in copy) rest) y later.0 has))), later)

  -- ---- copies of other records are apart

  others : (a : Due) (dues : List Due) → AllByRecursion (AreApart (λ k. k) (key_in copy a)) (map (key_in copy) dues)
      → AllByRecursion (λ n. nat_eq a.place n ≡ false) (map (λ (due : Due). due.place) dues)
  others a [] apart = tt
  others a (b ∷ dues) apart = (elim (eqb_tells a.place b.place) [ inl same ↦ absurd (apart.0 (refl, same.1)) | inr other ↦ other.0 ], others a dues apart.1)

  places_apart : (dues : List Due) → AreDistinct (λ k. k) (map (key_in copy) dues) → IsDistinct nat_eq (map (λ (due : Due). due.place) dues)
  unfolding IsDistinct
  places_apart [] distinct = tt
  places_apart (a ∷ dues) distinct = (others a dues distinct.0, places_apart dues distinct.1)

  others_back : (a : Due) (dues : List Due) → AllByRecursion (λ n. nat_eq a.place n ≡ false) (map (λ (due : Due). due.place) dues)
      → AllByRecursion (AreApart (λ k. k) (key_in copy a)) (map (key_in copy) dues)
  others_back a [] apart = tt
  others_back a (b ∷ dues) apart =
      ((λ same. elim (eqb_tells a.place b.place) [ inl equal ↦ let left = apart.0 in let right = equal.0 in cc | inr unequal ↦ unequal.1 same.1 ]), others_back a dues apart.1)

  apart_places : (dues : List Due) → IsDistinct nat_eq (map (λ (due : Due). due.place) dues) → AreDistinct (λ k. k) (map (key_in copy) dues)
  unfolding IsDistinct
  apart_places [] distinct = tt
  apart_places (a ∷ dues) distinct = (others_back a dues distinct.0, apart_places dues distinct.1)

  flips : (x y : ℕ) → nat_eq x y ≡ nat_eq y x
  flips x y = grind (arith, nat_tests)

  pub distinct_moved : (xs ys : List Due) → IsPermutation xs ys → AreDistinct (λ k. k) (map (key_in copy) xs) → AreDistinct (λ k. k) (map (key_in copy) ys)
  distinct_moved xs ys moved distinct =
      let place = λ (due : Due). due.place in
      apart_places ys (IsDistinct-IsPermutation nat_eq flips (map place xs) (map place ys) (IsPermutation-map place xs ys moved) (places_apart xs distinct))
