-- What is noted while a chain's positions are gone through.
use Rattle.std.proofs.Common.{◌≡◌, ◌≢◌, ℕ, suc, ◌<◌, Bool, true, false, nat_eq, List, [], ◌∷◌, ◌++◌, length, set, Option, None, Some, position, ◌⊎◌, inl, inr, if◌then◌else◌, refl, sym, ap, ◌∙◌, arith, true≢false}
use Rattle.std.proofs.lemmas.Bool.Decides.{nat_tests}
use Rattle.std.proofs.lemmas.List.{get_or-set_same, get_or-set_other}
use Rattle.trex_profile.specs.declared.chains.reach.Reach.{Reach}
use Rattle.trex_profile.specs.declared.chains.reach.Reach.TheVariants.{Nowhere, From, Shared}
use Rattle.trex_profile.specs.Visits.{Round, has, link_at, visits, round_of, comes_to}
use Rattle.trex_profile.specs.Reached.{noted, with_start, IsClosed}
use Rattle.trex_profile.proofs.Visiting.{has-push_new, has-visits, visits-visited, visits-last, visits-next, visits-shared}

-- what is noted of a position, once these were gone through
abbrev pub marked : List ℕ → ℕ → List Reach → ℕ → Reach
marked order start old i = if has order i then with_start start (noted old i) else noted old i

-- The positions that were gone through are noted, and at most n more steps lead to the end of the round.
pub record IsNoting (n : ℕ) (links : List (Option ℕ)) (old cur : List Reach) (start at : ℕ) : Type 0 where
  pub order : List ℕ
  pub left : visits n links order at ≡ round_of links start
  pub marks : (i : ℕ) → i < length links → noted cur i ≡ marked order start old i

-- all that the chain comes to is noted
abbrev pub IsNoted : List (Option ℕ) → List Reach → List Reach → ℕ → Type 0
IsNoted links old cur start = (i : ℕ) → i < length links
    → noted cur i ≡ (if comes_to links i start then with_start start (noted old i) else noted old i)

-- one that was noted is noted from the start, or as shared
with_start-noted : (start : ℕ) (r : Reach) → (with_start start r ≡ From start) ⊎ (with_start start r ≡ Shared)
with_start-noted start Nowhere = inl refl
with_start-noted start (From other) = inr refl
with_start-noted start Shared = inr refl

-- the end, where the order is known
ends : (links : List (Option ℕ)) (old cur : List Reach) (start : ℕ) (order : List ℕ) → (round_of links start).order ≡ order
    → ((i : ℕ) → i < length links → noted cur i ≡ marked order start old i) → IsNoted links old cur start
ends links old cur start order is marks i small = rw is (marks i small)

-- no step is left
pub noting-out : (n : ℕ) (links : List (Option ℕ)) (old cur : List Reach) (start at : ℕ) → n ≡ 0 → IsNoting n links old cur start at → IsNoted links old cur start
unfolding visits
noting-out n links old cur start at none is =
    let left : visits 0 links is.order at ≡ round_of links start = ap (λ (k : ℕ). visits k links is.order at) (sym none) ∙ is.left in
    ends links old cur start is.order (sym (ap (λ (r : Round). r.order) left)) is.marks

-- the position was gone through
noting-visited : (n m : ℕ) (links : List (Option ℕ)) (old cur : List Reach) (start at : ℕ) → n ≡ suc m → (is : IsNoting n links old cur start at) → has is.order at ≡ true
    → IsNoted links old cur start
noting-visited n m links old cur start at more is visited =
    let left : visits (suc m) links is.order at ≡ round_of links start = ap (λ (k : ℕ). visits k links is.order at) (sym more) ∙ is.left in
    let known : record { order = is.order; back = position (nat_eq at) is.order } ≡ round_of links start = sym (visits-visited m links is.order at visited) ∙ left in
    ends links old cur start is.order (sym (ap (λ (r : Round). r.order) known)) is.marks

-- a position noted from the start was gone through
pub noting-own : (n m : ℕ) (links : List (Option ℕ)) (old cur : List Reach) (start at : ℕ) → n ≡ suc m → IsNoting n links old cur start at → at < length links
    → ((i : ℕ) → i < length links → noted old i ≢ From start) → noted cur at ≡ From start → IsNoted links old cur start
noting-own n m links old cur start at more is small new own =
    by_test (has is.order at) refl (λ visited. noting-visited n m links old cur start at more is visited) (is.marks at small)
  where
    by_test : (test : Bool) → has is.order at ≡ test → (has is.order at ≡ true → IsNoted links old cur start)
        → noted cur at ≡ (if test then with_start start (noted old at) else noted old at) → IsNoted links old cur start
    by_test true tested visited mark = visited tested
    by_test false tested visited mark = absurd (new at small (sym mark ∙ own))

-- from a shared position on, all that follows is shared already
pub noting-shared : (n m : ℕ) (links : List (Option ℕ)) (old cur : List Reach) (start at : ℕ) → n ≡ suc m → IsNoting n links old cur start at → at < length links
    → IsClosed links old → noted cur at ≡ Shared → IsNoted links old cur start
noting-shared n m links old cur start at more is small closed shared =
    by_test (has is.order at) refl (λ visited. noting-visited n m links old cur start at more is visited) (is.marks at small)
  where
    order : List ℕ
    order = is.order

    known : (i : ℕ) → has order i ≡ true → comes_to links i start ≡ true
    known i among = rw (← is.left) (has-visits n links order at i among)

    by_both : (i : ℕ) (test all : Bool) → has order i ≡ test → comes_to links i start ≡ all
        → ((all ≡ true) → (test ≡ true) ⊎ (noted old i ≡ Shared)) → (test ≡ true → all ≡ true)
        → noted cur i ≡ (if test then with_start start (noted old i) else noted old i)
        → noted cur i ≡ (if all then with_start start (noted old i) else noted old i)
    by_both i true true t a rest grows mark = mark
    by_both i true false t a rest grows mark = absurd (true≢false (sym (grows refl)))
    by_both i false false t a rest grows mark = mark
    by_both i false true t a rest grows mark = either (rest refl)
      where
        either : (false ≡ true) ⊎ (noted old i ≡ Shared) → noted cur i ≡ with_start start (noted old i)
        either (inl no_way) = absurd (true≢false (sym no_way))
        either (inr is_shared) = mark ∙ is_shared ∙ sym (ap (with_start start) is_shared)

    later : noted old at ≡ Shared → IsNoted links old cur start
    later was i inside = by_both i (has order i) (comes_to links i start) refl refl
        (λ comes. visits-shared n links old closed order at was i (rw is.left comes)) (λ among. known i among) (is.marks i inside)

    by_test : (test : Bool) → has order at ≡ test → (has order at ≡ true → IsNoted links old cur start)
        → noted cur at ≡ (if test then with_start start (noted old at) else noted old at) → IsNoted links old cur start
    by_test true tested visited mark = visited tested
    by_test false tested visited mark = later (sym mark ∙ shared)

-- a position that was noted neither from the start nor as shared wasn't gone through
noting-new : (order : List ℕ) (start at : ℕ) (old cur : List Reach) → noted cur at ≡ marked order start old at → noted cur at ≢ From start → noted cur at ≢ Shared
    → has order at ≡ false
noting-new order start at old cur mark not_own not_shared = by_test (has order at) mark
  where
    absurd_by : (with_start start (noted old at) ≡ From start) ⊎ (with_start start (noted old at) ≡ Shared)
        → noted cur at ≡ with_start start (noted old at) → true ≡ false
    absurd_by (inl own) same = absurd (not_own (same ∙ own))
    absurd_by (inr shared) same = absurd (not_shared (same ∙ shared))

    by_test : (test : Bool) → noted cur at ≡ (if test then with_start start (noted old at) else noted old at) → test ≡ false
    by_test true same = absurd_by (with_start-noted start (noted old at)) same
    by_test false same = refl

-- another position than the new one is among these as before
has-push_other : (order : List ℕ) (at i : ℕ) → i ≢ at → has (order ++ at ∷ []) i ≡ has order i
has-push_other [] at i other = grind (arith, nat_tests)
has-push_other (x ∷ order) at i other = rw (has-push_other order at i other)

-- the marks after one more position
marks-push : (order : List ℕ) (start at n : ℕ) (old cur : List Reach) (v : Reach) → at < length cur → has order at ≡ false → with_start start (noted cur at) ≡ v
    → ((i : ℕ) → i < n → noted cur i ≡ marked order start old i) → at < n
    → (i : ℕ) → i < n → noted (set cur at v) i ≡ marked (order ++ at ∷ []) start old i
marks-push order start at n old cur v inside new is marks small i below = by_place (nat_eq i at) refl
  where
    same_of : (a b : ℕ) → nat_eq a b ≡ true → a ≡ b
    same_of a b test = grind (arith, nat_tests)

    other_of : (a b : ℕ) → nat_eq a b ≡ false → a ≡ b → ⊥
    other_of a b test same = grind (arith, nat_tests)

    here : noted (set cur at v) at ≡ marked (order ++ at ∷ []) start old at
    here =
        let was : noted cur at ≡ noted old at = rw new at (marks at small) in
        rw (get_or-set_same cur at v Nowhere inside) (rw (has-push_new order at) (sym is ∙ ap (with_start start) was))

    by_place : (test : Bool) → nat_eq i at ≡ test → noted (set cur at v) i ≡ marked (order ++ at ∷ []) start old i
    by_place true test = let same : i ≡ at = same_of i at test in rw same here
    by_place false test =
        let other : i ≢ at = other_of i at test in
        rw (get_or-set_other cur at i v Nowhere other) (rw (has-push_other order at i other) (marks i below))

-- a position that nothing follows is noted last
pub noting-last : (n m : ℕ) (links : List (Option ℕ)) (old cur : List Reach) (start at : ℕ) (v : Reach) → n ≡ suc m → IsNoting n links old cur start at → at < length links
    → length cur ≡ length links → noted cur at ≢ From start → noted cur at ≢ Shared → with_start start (noted cur at) ≡ v → link_at links at ≡ None
    → IsNoted links old (set cur at v) start
noting-last n m links old cur start at v more is small same not_own not_shared mark last =
    let new = noting-new is.order start at old cur (is.marks at small) not_own not_shared in
    let left : visits (suc m) links is.order at ≡ round_of links start = ap (λ (k : ℕ). visits k links is.order at) (sym more) ∙ is.left in
    let known : record { order = is.order ++ at ∷ []; back = None } ≡ round_of links start = sym (visits-last m links is.order at new last) ∙ left in
    let inside : at < length cur = omega arith in
    ends links old (set cur at v) start (is.order ++ at ∷ []) (sym (ap (λ (r : Round). r.order) known))
    (marks-push is.order start at (length links) old cur v inside new mark is.marks small)

-- a position that another follows is noted, and that one is next
pub noting-next : (n m : ℕ) (links : List (Option ℕ)) (old cur : List Reach) (start at next : ℕ) (v : Reach) → n ≡ suc m → IsNoting n links old cur start at → at < length links
    → length cur ≡ length links → noted cur at ≢ From start → noted cur at ≢ Shared → with_start start (noted cur at) ≡ v → link_at links at ≡ Some next
    → IsNoting m links old (set cur at v) start next
noting-next n m links old cur start at next v more is small same not_own not_shared mark follows =
    let new = noting-new is.order start at old cur (is.marks at small) not_own not_shared in
    let left : visits (suc m) links is.order at ≡ round_of links start = ap (λ (k : ℕ). visits k links is.order at) (sym more) ∙ is.left in
    let inside : at < length cur = omega arith in
    record {
      order = is.order ++ at ∷ [];
      left = sym (visits-next m links is.order at next new follows) ∙ left;
      marks = marks-push is.order start at (length links) old cur v inside new mark is.marks small;
    }
