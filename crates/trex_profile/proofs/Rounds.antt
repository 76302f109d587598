-- The round of a chain, and the rounds of several.
use Rattle.std.proofs.Common.{◌≡◌, ℕ, zero, suc, ◌+◌, ◌<◌, ◌||◌, Bool, true, false, nat_eq, List, [], ◌∷◌, ◌++◌, length, length-append, map, filter, Option, Some, None, position, ◌⊎◌, inl, inr, cond, refl, sym, ap, ◌∙◌, arith, rules, true≢false}
use Rattle.std.proofs.lemmas.Bool.Decides.{nat_tests}
use Rattle.std.proofs.lemmas.Grind.{common_steps}
use Rattle.std.proofs.lemmas.List.Quantifiers.{position-Some}
use Rattle.std.specs.List.{AllByRecursion, IsDistinct, slice_get}
use Rattle.std.specs.Option.{IfSome}
use Rattle.trex_merge.specs.Order.{EachPair, joined}
use Rattle.trex_merge.proofs.ListLemmas.{all-append}
use Rattle.trex_profile.specs.declared.chains.reach.Reach.TheVariants.{Shared}
use Rattle.trex_profile.specs.Visits.{Round, has, link_at, visits, round_of, comes_to, reach_of, reach_at}
use Rattle.trex_profile.proofs.Visiting.{has-push_new, has-visits, step_by, IsOrder, IsOrder-push}

-- two positions aren't the same
abbrev pub AreApart : ℕ → ℕ → Type 0
AreApart a b = ¬ (a ≡ b)

-- A round has each position once, it comes back to one of them, and one that nothing follows is the last of a round that doesn't come back.
pub record IsRound (n : ℕ) (links : List (Option ℕ)) (round : Round) : Type 0 where
  pub order : IsOrder n round.order
  pub back : IfSome round.back (λ back. back < length round.order)
  pub ends : (place at : ℕ) → slice_get round.order place ≡ Some at → link_at links at ≡ None → (place + 1 ≡ length round.order) × (round.back ≡ None)

-- each of these is followed by one
abbrev GoesOn : List (Option ℕ) → List ℕ → Type 0
GoesOn links order = (place at : ℕ) → slice_get order place ≡ Some at → link_at links at ≡ None → ⊥

-- what stands in a list with one more position
get-push : (order : List ℕ) (at place i : ℕ) → slice_get (order ++ at ∷ []) place ≡ Some i → (slice_get order place ≡ Some i) ⊎ ((place ≡ length order) × (i ≡ at))
get-push [] at zero i is = inr (refl, cc)
get-push [] at (suc place) i is = absurd (cc)
get-push (x ∷ order) at zero i is = inl is
get-push (x ∷ order) at (suc place) i is = by_case (get-push order at place i is)
  where
    by_case : (slice_get order place ≡ Some i) ⊎ ((place ≡ length order) × (i ≡ at)) → (slice_get order place ≡ Some i) ⊎ ((suc place ≡ length (x ∷ order)) × (i ≡ at))
    by_case (inl old) = inl old
    by_case (inr new) = let same : place ≡ length order = new.0 in inr (omega arith, new.1)

GoesOn-push : (links : List (Option ℕ)) (order : List ℕ) (at next : ℕ) → GoesOn links order → link_at links at ≡ Some next → GoesOn links (order ++ at ∷ [])
GoesOn-push links order at next goes linked place i there last = by_case (get-push order at place i there)
  where
    by_case : (slice_get order place ≡ Some i) ⊎ ((place ≡ length order) × (i ≡ at)) → ⊥
    by_case (inl old) = goes place i old last
    by_case (inr new) = let none : link_at links at ≡ None = rw (← new.1) last in absurd (cc)

-- a place that is found is one of the list
position-within : (order : List ℕ) (at : ℕ) → IfSome (position (nat_eq at) order) (λ back. back < length order)
position-within order at = by_case (position (nat_eq at) order) refl
  where
    by_case : (found : Option ℕ) → position (nat_eq at) order ≡ found → IfSome found (λ back. back < length order)
    by_case None is = tt
    by_case (Some back) is = (position-Some (nat_eq at) order back 0 is).0

visits-round : (n : ℕ) (links : List (Option ℕ)) (size : ℕ) → ((at next : ℕ) → link_at links at ≡ Some next → next < size) → (order : List ℕ) (at : ℕ) → IsOrder size order → at < size
    → GoesOn links order → IsRound size links (visits n links order at)
unfolding visits
visits-round zero links size within order at is small goes = record { order = is; back = tt; ends = λ place i there last. absurd (goes place i there last) }
visits-round (suc n) links size within order at is small goes =
    step (has order at) (link_at links at) refl refl
    (λ new next linked. visits-round n links size within (order ++ at ∷ []) next (IsOrder-push size order at is small new) (within at next linked) (GoesOn-push links order at next goes linked))
  where
    at_end : (place i : ℕ) → link_at links i ≡ None → (slice_get order place ≡ Some i) ⊎ ((place ≡ length order) × (i ≡ at)) → place + 1 ≡ length (order ++ at ∷ [])
    at_end place i last (inl old) = absurd (goes place i old last)
    at_end place i last (inr new) = let same : place ≡ length order = new.0 in rw (length-append order (at ∷ [])) (omega arith)

    step : (test : Bool) (link : Option ℕ) → has order at ≡ test → link_at links at ≡ link
        → (has order at ≡ false → (next : ℕ) → link_at links at ≡ Some next → IsRound size links (visits n links (order ++ at ∷ []) next))
        → IsRound size links (step_by n links order at test link)
    step true link tested linked later = record { order = is; back = position-within order at; ends = λ place i there last. absurd (goes place i there last) }
    step false None tested linked later = record {
      order = IsOrder-push size order at is small tested;
      back = tt;
      ends = λ place i there last. (at_end place i last (get-push order at place i there), refl);
    }
    step false (Some next) tested linked later = later tested next linked

pub round_of-round : (links : List (Option ℕ)) → ((at next : ℕ) → link_at links at ≡ Some next → next < length links) → (start : ℕ) → start < length links
    → IsRound (length links) links (round_of links start)
unfolding IsDistinct
round_of-round links within start small =
    let none : IsOrder (length links) [] = record { distinct = search rules; below = λ i among. absurd (true≢false (sym among)) } in
    visits-round (suc (length links)) links (length links) within [] start none small (λ place at there last. absurd (cc))

-- a chain comes to its first position
has-first : (links : List (Option ℕ)) (start : ℕ) → has (round_of links start).order start ≡ true
unfolding visits
has-first links start = step (link_at links start) (λ next. has-visits (length links) links (start ∷ []) next start (has-push_new [] start))
  where
    step : (link : Option ℕ) → ((next : ℕ) → has (visits (length links) links (start ∷ []) next).order start ≡ true) → has (step_by (length links) links [] start false link).order start ≡ true
    step None later = has-push_new [] start
    step (Some next) later = later next

has-some : (order : List ℕ) (at : ℕ) → has order at ≡ true → 0 < length order
has-some [] at among = absurd (true≢false (sym among))
has-some (x ∷ order) at among = omega arith

pub round_of-some : (links : List (Option ℕ)) (start : ℕ) → 0 < length (round_of links start).order
round_of-some links start = has-some (round_of links start).order start (has-first links start)

other_of : (a b : ℕ) → nat_eq a b ≡ false → AreApart a b
other_of a b test same = grind (arith, nat_tests)

others : (x : ℕ) (xs : List ℕ) → AllByRecursion (λ y. nat_eq x y ≡ false) xs → AllByRecursion (AreApart x) xs
others x [] differ = tt
others x (y ∷ xs) differ = (other_of x y differ.0, others x xs differ.1)

-- a list without repetitions
pub distinct-apart : (xs : List ℕ) → IsDistinct nat_eq xs → EachPair AreApart xs
unfolding IsDistinct
distinct-apart [] distinct = tt
distinct-apart (x ∷ xs) distinct = (others x xs distinct.0, distinct-apart xs distinct.1)

-- a position that isn't among these
absent-apart : (order : List ℕ) (x : ℕ) → has order x ≡ false → AllByRecursion (AreApart x) order
absent-apart [] x none = tt
absent-apart (y ∷ order) x none = by_test (nat_eq x y) refl none (absent-apart order x)
  where
    by_test : (test : Bool) → nat_eq x y ≡ test → (test || has order x) ≡ false → (has order x ≡ false → AllByRecursion (AreApart x) order) → AllByRecursion (AreApart x) (y ∷ order)
    by_test true tested is later = absurd (true≢false is)
    by_test false tested is later = (other_of x y tested, later is)

-- the orders of the rounds that begin at these
abbrev pub orders : List (Option ℕ) → List ℕ → List (List ℕ)
orders links starts = map (λ start. (round_of links start).order) starts

-- a position to which none of these chains comes
unreached-apart : (links : List (Option ℕ)) (starts : List ℕ) (x : ℕ) → filter (comes_to links x) starts ≡ [] → AllByRecursion (AreApart x) (joined (orders links starts))
unreached-apart links [] x none = tt
unreached-apart links (start ∷ starts) x none = by_test (comes_to links x start) refl none (unreached-apart links starts x)
  where
    by_test : (test : Bool) → comes_to links x start ≡ test → cond test (start ∷ filter (comes_to links x) starts) (filter (comes_to links x) starts) ≡ []
        → (filter (comes_to links x) starts ≡ [] → AllByRecursion (AreApart x) (joined (orders links starts)))
        → AllByRecursion (AreApart x) (joined (orders links (start ∷ starts)))
    by_test true comes is later = absurd (cc)
    by_test false comes is later =
        all-append (AreApart x) (round_of links start).order (joined (orders links starts)) (absent-apart (round_of links start).order x comes) (later is)

-- none of the positions below n is reached from two of these
abbrev pub AreUnshared : ℕ → List (Option ℕ) → List ℕ → Type 0
AreUnshared n links starts = (at : ℕ) → at < n → reach_at links starts at ≡ Shared → ⊥

only_one : (start : ℕ) (kept : List ℕ) → (reach_of (start ∷ kept) ≡ Shared → ⊥) → kept ≡ []
only_one start [] unshared = refl
only_one start (other ∷ kept) unshared = absurd (unshared refl)

shared-more : (test : Bool) (start : ℕ) (kept : List ℕ) → reach_of kept ≡ Shared → reach_of (cond test (start ∷ kept) kept) ≡ Shared
shared-more false start kept is = is
shared-more true start [] is = absurd (cc)
shared-more true start (x ∷ []) is = absurd (cc)
shared-more true start (x ∷ y ∷ kept) is = refl

pub has-more : (test : Bool) (order : List ℕ) (at : ℕ) → has order at ≡ true → (test || has order at) ≡ true
has-more true order at among = refl
has-more false order at among = among

pub has-head : (x : ℕ) (order : List ℕ) → has (x ∷ order) x ≡ true
has-head x order = grind (arith, common_steps)

-- two lists, each position of the first apart from all of the second
pairs-append : (xs ys : List ℕ) → EachPair AreApart xs → EachPair AreApart ys → ((x : ℕ) → has xs x ≡ true → AllByRecursion (AreApart x) ys) → EachPair AreApart (xs ++ ys)
pairs-append [] ys left right across = right
pairs-append (x ∷ xs) ys left right across = (
  all-append (AreApart x) xs ys left.0 (across x (has-head x xs)),
  pairs-append xs ys left.1 right (λ y among. across y (has-more (nat_eq y x) xs y among)),
)

-- Chains of which no two come to the same position.
pub orders-apart : (links : List (Option ℕ)) → ((at next : ℕ) → link_at links at ≡ Some next → next < length links) → (starts : List ℕ)
    → AllByRecursion (λ start. start < length links) starts → AreUnshared (length links) links starts → EachPair AreApart (joined (orders links starts))
orders-apart links within [] small unshared = tt
orders-apart links within (start ∷ starts) small unshared =
    pairs-append (round_of links start).order (joined (orders links starts)) (distinct-apart (round_of links start).order round.order.distinct)
    (orders-apart links within starts small.1 (λ at below shared. unshared at below (shared-more (comes_to links at start) start (filter (comes_to links at) starts) shared)))
    (λ x comes. unreached-apart links starts x (only_one start (filter (comes_to links x) starts)
    (λ shared. unshared x (round.order.below x comes) (kept x comes ∙ shared))))
  where
    round : IsRound (length links) links (round_of links start)
    round = round_of-round links within start small.0

    kept : (x : ℕ) → comes_to links x start ≡ true → reach_at links (start ∷ starts) x ≡ reach_of (start ∷ filter (comes_to links x) starts)
    kept x comes = ap (λ (test : Bool). reach_of (cond test (start ∷ filter (comes_to links x) starts) (filter (comes_to links x) starts))) comes
