-- What a chain comes to.
use Rattle.std.proofs.Common.{◌≡◌, ℕ, zero, suc, ◌+◌, ◌≤◌, ◌<◌, ◌||◌, Bool, true, false, nat_eq, List, [], ◌∷◌, ◌++◌, length, filter, take, drop, get_or, length-append, Option, Some, None, position, ◌⊎◌, inl, inr, if◌then◌else◌, cond, refl, sym, ap, ◌∙◌, arith, rules, true≢false}
use Rattle.std.proofs.lemmas.Grind.{common_steps}
use Rattle.std.proofs.lemmas.List.Elements.{filter-append, filter_map-append}
use Rattle.std.proofs.lemmas.Map.Steps.{length-le_from_distinct_below}
use Rattle.std.proofs.lemmas.Map.Keys.{IsDistinct-push}
use Rattle.std.specs.Cmp.{nat_eq_equiv}
use Rattle.std.proofs.lemmas.Bool.Decides.{nat_tests}
use Rattle.std.specs.List.{filter_map, IsDistinct}
use Rattle.trex_profile.specs.declared.chains.reach.Reach.{Reach}
use Rattle.trex_profile.specs.declared.chains.reach.Reach.TheVariants.{Nowhere, From, Shared}
use Rattle.std.proofs.Math.Seq.{take-append_seam}
use Rattle.std.specs.Prelude.{slice_get, option_and_then}
use Rattle.std.proofs.lemmas.Option.{slice_get_cases, slice_get-get_or}
use Rattle.std.proofs.lemmas.List.{take_more, append-nil}
use Rattle.trex_profile.specs.Visits.{Round, has, link_at, unless_last, visits, round_of, comes_to, reach_of, reach_at}
use Rattle.trex_profile.specs.Reached.{noted, with_start, IsClosed, AreReached, AreRising}

-- a position among these and one more is among these, or the one
pub has-push : (order : List ℕ) (at i : ℕ) → has (order ++ at ∷ []) i ≡ true → (has order i ≡ true) ⊎ (i ≡ at)
has-push [] at i is = inr (grind (arith, common_steps))
has-push (x ∷ order) at i is = first (nat_eq i x) is (has-push order at i)
  where
    first : (b : Bool) → (b || has (order ++ at ∷ []) i) ≡ true → (has (order ++ at ∷ []) i ≡ true → (has order i ≡ true) ⊎ (i ≡ at))
        → ((b || has order i) ≡ true) ⊎ (i ≡ at)
    first true is later = inl refl
    first false is later = later is

-- what is among these is among these and one more
pub has-push_old : (order : List ℕ) (at i : ℕ) → has order i ≡ true → has (order ++ at ∷ []) i ≡ true
has-push_old [] at i is = absurd (true≢false (sym is))
has-push_old (x ∷ order) at i is = first (nat_eq i x) is (has-push_old order at i)
  where
    first : (b : Bool) → (b || has order i) ≡ true → (has order i ≡ true → has (order ++ at ∷ []) i ≡ true) → (b || has (order ++ at ∷ []) i) ≡ true
    first true is later = refl
    first false is later = later is

-- and so is the one
pub has-push_new : (order : List ℕ) (at : ℕ) → has (order ++ at ∷ []) at ≡ true
has-push_new [] at = grind (arith, common_steps)
has-push_new (x ∷ order) at = last (nat_eq at x) (has-push_new order at)
  where
    last : (b : Bool) → has (order ++ at ∷ []) at ≡ true → (b || has (order ++ at ∷ []) at) ≡ true
    last true is = refl
    last false is = is

-- one step, by what is looked at
abbrev pub step_by : ℕ → List (Option ℕ) → List ℕ → ℕ → Bool → Option ℕ → Round
step_by n links order at test link =
    if test then record { order = order; back = position (nat_eq at) order }
    else unless_last (order ++ at ∷ []) link (λ next. visits n links (order ++ at ∷ []) next)

-- a position that was visited ends the round
pub visits-visited : (n : ℕ) (links : List (Option ℕ)) (order : List ℕ) (at : ℕ) → has order at ≡ true
    → visits (suc n) links order at ≡ record { order = order; back = position (nat_eq at) order }
unfolding visits
visits-visited n links order at is = rw is

-- so does one that nothing follows
pub visits-last : (n : ℕ) (links : List (Option ℕ)) (order : List ℕ) (at : ℕ) → has order at ≡ false → link_at links at ≡ None
    → visits (suc n) links order at ≡ record { order = order ++ at ∷ []; back = None }
unfolding visits
visits-last n links order at new is = rw new (ap (λ link. unless_last (order ++ at ∷ []) link (λ next. visits n links (order ++ at ∷ []) next)) is)

-- else the one that follows is next
pub visits-next : (n : ℕ) (links : List (Option ℕ)) (order : List ℕ) (at next : ℕ) → has order at ≡ false → link_at links at ≡ Some next
    → visits (suc n) links order at ≡ visits n links (order ++ at ∷ []) next
unfolding visits
visits-next n links order at next new is = rw new (ap (λ link. unless_last (order ++ at ∷ []) link (λ next. visits n links (order ++ at ∷ []) next)) is)

-- what was visited stays in the order
pub has-visits : (n : ℕ) (links : List (Option ℕ)) (order : List ℕ) (at i : ℕ) → has order i ≡ true → has (visits n links order at).order i ≡ true
unfolding visits
has-visits zero links order at i is = is
has-visits (suc n) links order at i is = step (has order at) (link_at links at) (λ next. has-visits n links (order ++ at ∷ []) next i (has-push_old order at i is))
  where
    step : (test : Bool) (link : Option ℕ) → ((next : ℕ) → has (visits n links (order ++ at ∷ []) next).order i ≡ true)
        → has (step_by n links order at test link).order i ≡ true
    step true link later = is
    step false None later = has-push_old order at i is
    step false (Some next) later = later next

-- From a shared position on, what is visited is shared.
pub visits-shared : (n : ℕ) (links : List (Option ℕ)) (all : List Reach) → IsClosed links all → (order : List ℕ) (at : ℕ) → noted all at ≡ Shared → (i : ℕ)
    → has (visits n links order at).order i ≡ true → (has order i ≡ true) ⊎ (noted all i ≡ Shared)
unfolding visits
visits-shared zero links all closed order at shared i is = inl is
visits-shared (suc n) links all closed order at shared i is =
    step (has order at) (link_at links at) refl is
    (λ next linked. visits-shared n links all closed (order ++ at ∷ []) next (closed at next linked shared) i)
  where
    pushed : (has order i ≡ true) ⊎ (i ≡ at) → (has order i ≡ true) ⊎ (noted all i ≡ Shared)
    pushed (inl old) = inl old
    pushed (inr new) = inr (rw new shared)

    later_pushed : (has (order ++ at ∷ []) i ≡ true) ⊎ (noted all i ≡ Shared) → (has order i ≡ true) ⊎ (noted all i ≡ Shared)
    later_pushed (inl old) = pushed (has-push order at i old)
    later_pushed (inr new) = inr new

    step : (test : Bool) (link : Option ℕ) → link_at links at ≡ link → has (step_by n links order at test link).order i ≡ true
        → ((next : ℕ) → link_at links at ≡ Some next → has (visits n links (order ++ at ∷ []) next).order i ≡ true
        → (has (order ++ at ∷ []) i ≡ true) ⊎ (noted all i ≡ Shared))
        → (has order i ≡ true) ⊎ (noted all i ≡ Shared)
    step true link linked is later = inl is
    step false None linked is later = pushed (has-push order at i is)
    step false (Some next) linked is later = later_pushed (later next linked is)

-- Each position of these leads to one of these, or to the one.
abbrev pub LeadsOn : List (Option ℕ) → List ℕ → ℕ → Type 0
LeadsOn links order at =
    (i next : ℕ) → has order i ≡ true → link_at links i ≡ Some next → (has order next ≡ true) ⊎ (next ≡ at)

-- these are below n, and no two are equal
pub record IsOrder (n : ℕ) (order : List ℕ) : Type 0 where
  pub distinct : IsDistinct nat_eq order
  pub below : (i : ℕ) → has order i ≡ true → i < n

-- an order and one position more
pub IsOrder-push : (n : ℕ) (order : List ℕ) (at : ℕ) → IsOrder n order → at < n → has order at ≡ false → IsOrder n (order ++ at ∷ [])
IsOrder-push n order at is small new = record {
  distinct = IsDistinct-push nat_eq_equiv order at is.distinct new;
  below = λ i among. by_place i (has-push order at i among);
}
  where
    by_place : (i : ℕ) → (has order i ≡ true) ⊎ (i ≡ at) → i < n
    by_place i (inl old) = is.below i old
    by_place i (inr same) = rw same small

-- where the links lead on, they do so after one more position
LeadsOn-push : (links : List (Option ℕ)) (order : List ℕ) (at further : ℕ) → LeadsOn links order at → link_at links at ≡ Some further
    → LeadsOn links (order ++ at ∷ []) further
LeadsOn-push links order at further leads linked i next among follows = by_place (has-push order at i among)
  where
    moved : (has order next ≡ true) ⊎ (next ≡ at) → (has (order ++ at ∷ []) next ≡ true) ⊎ (next ≡ further)
    moved (inl old) = inl (has-push_old order at next old)
    moved (inr same) = inl (rw same (has-push_new order at))

    by_place : (has order i ≡ true) ⊎ (i ≡ at) → (has (order ++ at ∷ []) next ≡ true) ⊎ (next ≡ further)
    by_place (inl old) = moved (leads i next old follows)
    by_place (inr same) = let both : link_at links at ≡ Some next = rw (← same) follows in inr (cc)

-- A round is closed: what follows a position of it is a position of it.
pub visits-closed : (n : ℕ) (links : List (Option ℕ)) (size : ℕ) → ((i next : ℕ) → link_at links i ≡ Some next → next < size)
    → (order : List ℕ) (at : ℕ) → IsOrder size order → at < size → size < n + length order → LeadsOn links order at
    → (i next : ℕ) → has (visits n links order at).order i ≡ true → link_at links i ≡ Some next → has (visits n links order at).order next ≡ true
unfolding visits
visits-closed zero links size within order at is small room leads i next among follows =
    let fits : length order ≤ size = length-le_from_distinct_below order size is.distinct is.below in absurd (omega arith)
visits-closed (suc n) links size within order at is small room leads i next among follows =
    step (has order at) (link_at links at) refl refl among
    (λ new further linked. visits-closed n links size within (order ++ at ∷ []) further (IsOrder-push size order at is small new)
    (within at further linked) (rw (length-append order (at ∷ [])) (omega arith)) (LeadsOn-push links order at further leads linked) i next)
  where
    stays : has order at ≡ true → (has order next ≡ true) ⊎ (next ≡ at) → has order next ≡ true
    stays visited (inl old) = old
    stays visited (inr same) = rw same visited

    moved : (has order next ≡ true) ⊎ (next ≡ at) → has (order ++ at ∷ []) next ≡ true
    moved (inl old) = has-push_old order at next old
    moved (inr same) = rw same (has-push_new order at)

    by_place : link_at links at ≡ None → (has order i ≡ true) ⊎ (i ≡ at) → has (order ++ at ∷ []) next ≡ true
    by_place last (inl old) = moved (leads i next old follows)
    by_place last (inr same) = let both : link_at links at ≡ Some next = rw (← same) follows in absurd (cc)

    step : (test : Bool) (link : Option ℕ) → has order at ≡ test → link_at links at ≡ link → has (step_by n links order at test link).order i ≡ true
        → (has order at ≡ false → (further : ℕ) → link_at links at ≡ Some further → has (visits n links (order ++ at ∷ []) further).order i ≡ true
        → link_at links i ≡ Some next → has (visits n links (order ++ at ∷ []) further).order next ≡ true)
        → has (step_by n links order at test link).order next ≡ true
    step true link tested linked is_there later = stays tested (leads i next is_there follows)
    step false None tested linked is_there later = by_place linked (has-push order at i is_there)
    step false (Some further) tested linked is_there later = later tested further linked is_there follows

-- what follows a position to which a chain comes is a position to which it comes
pub comes_to-closed : (links : List (Option ℕ)) → ((i next : ℕ) → link_at links i ≡ Some next → next < length links) → (start : ℕ) → start < length links
    → (i next : ℕ) → link_at links i ≡ Some next → comes_to links i start ≡ true → comes_to links next start ≡ true
unfolding IsDistinct
comes_to-closed links within start small i next follows comes =
    let none : IsOrder (length links) [] = record { distinct = search rules; below = λ j among. absurd (true≢false (sym among)) } in
    visits-closed (suc (length links)) links (length links) within [] start none small (omega arith) (λ j k among. absurd (true≢false (sym among))) i next comes follows

-- shared is what at least two reach
reach_of-two : (xs : List ℕ) → reach_of xs ≡ Shared → 2 ≤ length xs
reach_of-two [] is = absurd (cc)
reach_of-two (x ∷ []) is = absurd (cc)
reach_of-two (x ∷ y ∷ xs) is = omega arith

reach_of-shared : (xs : List ℕ) → 2 ≤ length xs → reach_of xs ≡ Shared
reach_of-shared [] two = absurd (omega arith)
reach_of-shared (x ∷ []) two = absurd (omega arith)
reach_of-shared (x ∷ y ∷ xs) two = refl

-- a test that passes more keeps more
filter-more : (p q : ℕ → Bool) → ((s : ℕ) → p s ≡ true → q s ≡ true) → (xs : List ℕ) → length (filter p xs) ≤ length (filter q xs)
filter-more p q more [] = omega arith
filter-more p q more (x ∷ xs) = by_tests (p x) (q x) (more x) (filter-more p q more xs)
  where
    by_tests : (b c : Bool) → (b ≡ true → c ≡ true) → length (filter p xs) ≤ length (filter q xs)
        → length (cond b (x ∷ filter p xs) (filter p xs)) ≤ length (cond c (x ∷ filter q xs) (filter q xs))
    by_tests true true both later = omega arith
    by_tests true false both later = absurd (true≢false (sym (both refl)))
    by_tests false true both later = omega arith
    by_tests false false both later = later

-- what is shared under a test is shared under one that passes more
pub reach_of-more : (p q : ℕ → Bool) → ((s : ℕ) → p s ≡ true → q s ≡ true) → (xs : List ℕ) → reach_of (filter p xs) ≡ Shared → reach_of (filter q xs) ≡ Shared
reach_of-more p q more xs is =
    let two = reach_of-two (filter p xs) is in let grows = filter-more p q more xs in reach_of-shared (filter q xs) (omega arith)

-- one start more
pub reach_of-push : (xs : List ℕ) (start : ℕ) → reach_of (xs ++ start ∷ []) ≡ with_start start (reach_of xs)
reach_of-push [] start = refl
reach_of-push (x ∷ []) start = refl
reach_of-push (x ∷ y ∷ xs) start = refl

-- what is reached from one start is reached from one of them
pub reach_of-from : (p : ℕ → Bool) (xs : List ℕ) (start : ℕ) → reach_of (filter p xs) ≡ From start → has xs start ≡ true
reach_of-from p [] start is = absurd (cc)
reach_of-from p (x ∷ xs) start is = by_test (p x) (filter p xs) is (reach_of-from p xs start)
  where
    later : (b : Bool) → has xs start ≡ true → (b || has xs start) ≡ true
    later true among = refl
    later false among = among

    by_test : (b : Bool) (kept : List ℕ) → reach_of (cond b (x ∷ kept) kept) ≡ From start → (reach_of kept ≡ From start → has xs start ≡ true)
        → has (x ∷ xs) start ≡ true
    by_test true [] from rest = let same : x ≡ start = cc in rw same (grind (arith, common_steps))
    by_test true (y ∷ kept) from rest = absurd (cc)
    by_test false kept from rest = later (nat_eq start x) (rest from)

-- a position in a rising list is at least low, and below n
rising-range : (n low : ℕ) (xs : List ℕ) (i : ℕ) → AreRising n low xs → i < length xs → (low ≤ get_or xs i 0) × (get_or xs i 0 < n)
rising-range n low [] i rises small = absurd (omega arith)
rising-range n low (x ∷ xs) zero rises small = (rises.0, rises.1)
rising-range n low (x ∷ xs) (suc i) rises small =
    let later = rising-range n (x + 1) xs i rises.2 (omega arith) in let first : low ≤ x = rises.0 in (omega arith, later.1)

-- a position of a rising list is below n
pub rising-below : (n low : ℕ) (xs : List ℕ) (i : ℕ) → AreRising n low xs → i < length xs → get_or xs i 0 < n
rising-below n low xs i rises small = (rising-range n low xs i rises small).1

-- and is not among those before it
pub rising-new : (n low : ℕ) (xs : List ℕ) (i : ℕ) → AreRising n low xs → i < length xs → has (take i xs) (get_or xs i 0) ≡ false
rising-new n low [] i rises small = absurd (omega arith)
rising-new n low (x ∷ xs) zero rises small = refl
rising-new n low (x ∷ xs) (suc i) rises small =
    let range = rising-range n (x + 1) xs i rises.2 (omega arith) in
    let above : nat_eq (get_or xs i 0) x ≡ false = differs (get_or xs i 0) x (omega arith) in
    rw above (rising-new n (x + 1) xs i rises.2 (omega arith))
  where
    differs : (a b : ℕ) → b < a → nat_eq a b ≡ false
    differs a b less = grind (arith, nat_tests)

-- a position that something follows is one of the links
link_at-within : (links : List (Option ℕ)) (at next : ℕ) → link_at links at ≡ Some next → at < length links
link_at-within links at next follows = by_case (slice_get_cases links at).1
  where
    by_case : ((link : Option ℕ) × (at < length links) × (slice_get links at ≡ Some link) × (get_or links at link ≡ link)) ⊎ ((length links ≤ at) × (slice_get links at ≡ None))
        → at < length links
    by_case (inl found) = found.1
    by_case (inr past) = let none : link_at links at ≡ None = ap (option_and_then (λ next. next)) past.1 in absurd (cc)

-- the same, wherever the chain begins
comes_to-any : (links : List (Option ℕ)) → ((i next : ℕ) → link_at links i ≡ Some next → next < length links) → (start i next : ℕ)
    → link_at links i ≡ Some next → comes_to links i start ≡ true → comes_to links next start ≡ true
comes_to-any links within start i next follows comes = by_case (slice_get_cases links start).1
  where
    only : (round_of links start) ≡ record { order = start ∷ []; back = None } → has (start ∷ []) i ≡ true
    only is = sym (ap (λ (r : Round). has r.order i) is) ∙ comes

    same_of : has (start ∷ []) i ≡ true → i ≡ start
    same_of is = grind (arith, nat_tests)

    by_case : ((link : Option ℕ) × (start < length links) × (slice_get links start ≡ Some link) × (get_or links start link ≡ link)) ⊎ ((length links ≤ start) × (slice_get links start ≡ None))
        → comes_to links next start ≡ true
    by_case (inl found) = comes_to-closed links within start found.1 i next follows comes
    by_case (inr past) =
        let none : link_at links start ≡ None = ap (option_and_then (λ next. next)) past.1 in
        let same : i ≡ start = same_of (only (visits-last (length links) links [] start refl none)) in
        let both : link_at links start ≡ Some next = rw (← same) follows in absurd (cc)

-- what is noted of all starts is closed
pub reached-closed : (links : List (Option ℕ)) (starts : List ℕ) (all : List Reach) → ((i next : ℕ) → link_at links i ≡ Some next → next < length links)
    → AreReached links starts all → IsClosed links all
reached-closed links starts all within reached at next follows shared =
    let here = reached.each at (link_at-within links at next follows) in
    let there = reached.each next (within at next follows) in
    there ∙ reach_of-more (comes_to links at) (comes_to links next) (λ s comes. comes_to-any links within s at next follows comes) starts (sym here ∙ shared)

-- nothing is noted of a start that comes later
pub reached-new : (links : List (Option ℕ)) (starts : List ℕ) (i : ℕ) (all : List Reach) → AreRising (length links) 0 starts → i < length starts
    → AreReached links (take i starts) all → (at : ℕ) → at < length links → noted all at ≡ From (get_or starts i 0) → ⊥
reached-new links starts i all rises inside reached at small from =
    let among = reach_of-from (comes_to links at) (take i starts) (get_or starts i 0) (sym (reached.each at small) ∙ from) in
    true≢false (sym among ∙ rising-new (length links) 0 starts i rises inside)

-- one start more is noted
pub reached-more : (links : List (Option ℕ)) (starts : List ℕ) (i : ℕ) (old new : List Reach) → i < length starts → AreReached links (take i starts) old
    → length new ≡ length old
    → ((at : ℕ) → at < length links → noted new at
    ≡ (if comes_to links at (get_or starts i 0) then with_start (get_or starts i 0) (noted old at) else noted old at))
    → AreReached links (take (i + 1) starts) new
reached-more links starts i old new inside reached same marks = record {
  same = same ∙ reached.same;
  each = λ at small. by_test at small (comes_to links at (get_or starts i 0)) refl (marks at small);
}
  where
    start : ℕ
    start = get_or starts i 0

    kept : (at : ℕ) → filter (comes_to links at) (take (i + 1) starts) ≡ filter (comes_to links at) (take i starts) ++ filter (comes_to links at) (start ∷ [])
    kept at = rw (take_more starts i 0 inside) (filter-append (comes_to links at) (take i starts) (start ∷ []))

    by_test : (at : ℕ) → at < length links → (test : Bool) → comes_to links at start ≡ test
        → noted new at ≡ (if test then with_start start (noted old at) else noted old at) → noted new at ≡ reach_at links (take (i + 1) starts) at
    by_test at small true comes mark =
        let front = filter (comes_to links at) (take i starts) in
        let one : filter (comes_to links at) (start ∷ []) ≡ start ∷ [] = rw comes in
        mark ∙ ap (with_start start) (reached.each at small) ∙ sym (reach_of-push front start) ∙ sym (ap reach_of (kept at ∙ ap (λ rest. front ++ rest) one))
    by_test at small false comes mark =
        let front = filter (comes_to links at) (take i starts) in
        let one : filter (comes_to links at) (start ∷ []) ≡ [] = rw comes in
        mark ∙ reached.each at small ∙ sym (ap reach_of (kept at ∙ ap (λ rest. front ++ rest) one ∙ append-nil front))

-- a list that was written whole
pub whole_write : (n : ℕ) (new items : List Reach) → length new ≡ n → take n (new ++ drop (length new) items) ≡ new
whole_write n new items same = ap (λ k. take k (new ++ drop (length new) items)) (sym same) ∙ take-append_seam new (drop (length new) items)

-- what a position is linked to, as the list has it
pub link_at-get : (links : List (Option ℕ)) (at : ℕ) (d : Option ℕ) → at < length links → link_at links at ≡ get_or links at d
link_at-get links at d small = ap (option_and_then (λ next. next)) (slice_get-get_or links at d small)

-- a round that comes back
pub visit-again : (n m : ℕ) (links : List (Option ℕ)) (order keys : List ℕ) (at start place : ℕ) → n ≡ suc m → visits n links order at ≡ round_of links start → keys ≡ order
    → Some place ≡ position (nat_eq at) keys → true ≡ has keys at → record { order = order; back = Some place } ≡ round_of links start
visit-again n m links order keys at start place more left same is found =
    let among : has order at ≡ true = ap (λ (k : List ℕ). has k at) (sym same) ∙ sym found in
    let rest : visits (suc m) links order at ≡ round_of links start = ap (λ (k : ℕ). visits k links order at) (sym more) ∙ left in
    let back : Some place ≡ position (nat_eq at) order = is ∙ ap (λ (k : List ℕ). position (nat_eq at) k) same in
    rw back (sym (visits-visited m links order at among) ∙ rest)

-- a round that ends
pub visit-last : (n m : ℕ) (links : List (Option ℕ)) (order pushed : List ℕ) (at start : ℕ) → n ≡ suc m → visits n links order at ≡ round_of links start → has order at ≡ false
    → link_at links at ≡ None → pushed ≡ order ++ at ∷ [] → record { order = pushed; back = None } ≡ round_of links start
visit-last n m links order pushed at start more left new last is =
    let rest : visits (suc m) links order at ≡ round_of links start = ap (λ (k : ℕ). visits k links order at) (sym more) ∙ left in
    rw is (sym (visits-last m links order at new last) ∙ rest)

-- a round that goes on
pub visit-next : (n m : ℕ) (links : List (Option ℕ)) (order pushed : List ℕ) (at start next : ℕ) → n ≡ suc m → visits n links order at ≡ round_of links start → has order at ≡ false
    → link_at links at ≡ Some next → pushed ≡ order ++ at ∷ [] → visits m links pushed next ≡ round_of links start
visit-next n m links order pushed at start next more left new follows is =
    let rest : visits (suc m) links order at ≡ round_of links start = ap (λ (k : ℕ). visits k links order at) (sym more) ∙ left in
    rw is (sym (visits-next m links order at next new follows) ∙ rest)

-- no step is left
pub visit-out : (n : ℕ) (links : List (Option ℕ)) (order : List ℕ) (at start : ℕ) → n ≡ 0 → visits n links order at ≡ round_of links start
    → record { order = order; back = None } ≡ round_of links start
unfolding visits
visit-out n links order at start none left = ap (λ (k : ℕ). visits k links order at) (sym none) ∙ left

-- one leg more
pub filter_map-more : {A : Type 0} (f : ℕ → Option A) (xs : List ℕ) (i : ℕ) (y : A) → i < length xs → f (get_or xs i 0) ≡ Some y
    → filter_map f (take (i + 1) xs) ≡ filter_map f (take i xs) ++ y ∷ []
filter_map-more f xs i y inside is =
    rw (take_more xs i 0 inside) (filter_map-append f (take i xs) (get_or xs i 0 ∷ []) ∙ ap (λ rest. filter_map f (take i xs) ++ rest) (rw is))

-- an order with its set of keys, and one position more
pub visited-push : (keys order new pushed : List ℕ) (at : ℕ) → keys ≡ order → has order at ≡ false → new ≡ (if has keys at then keys else keys ++ at ∷ []) → pushed ≡ order ++ at ∷ []
    → new ≡ pushed
visited-push keys order new pushed at same absent is pushed_is =
    let no_key : has keys at ≡ false = ap (λ (k : List ℕ). has k at) same ∙ absent in
    is ∙ ap (λ (b : Bool). if b then keys else keys ++ at ∷ []) no_key ∙ ap (λ (k : List ℕ). k ++ at ∷ []) same ∙ sym pushed_is

-- what is noted of a position, with any default
pub noted-get : (all : List Reach) (at : ℕ) (d : Reach) → at < length all → noted all at ≡ get_or all at d
noted-get all at d small =
    let one = slice_get-get_or all at Nowhere small in let other = slice_get-get_or all at d small in cc (one, other)
