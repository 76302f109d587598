-- The streams of a sample break no rule that is over several streams.
use Rattle.std.proofs.Common.{◌≡◌, ℕ, zero, suc, ◌+◌, ◌≤◌, ◌<◌, ◌||◌, Bool, true, false, nat_eq, List, [], ◌∷◌, map, filter, take, Option, None, refl, ap, ◌∙◌, arith}
use Rattle.std.specs.List.{list_any, range_with_len}
use Rattle.std.proofs.lemmas.Bool.Decides.{nat_tests}
use Rattle.trex_profile.specs.Chains.{starts_from, starts}
use Rattle.trex_profile.specs.Cross.{duplicate_refusal, lost_refusal, shared_refusal, flow_refusal, cross_rules}
use Rattle.trex_profile.specs.Links.{ids, links, effective_next, is_endless}
use Rattle.trex_profile.specs.Order.{first_each}
use Rattle.trex_profile.specs.Stream.{Stream}
use Rattle.trex_profile.specs.Visits.{link_at, visits, comes_to, reach_of, is_shared}
use Rattle.trex_sample.specs.Sampled.{sampled_stream, sampled}

-- no rule is broken where it is broken of none of the items
pub none-each : {E : Type 0} (f : ℕ → Stream → Option E) (g : ℕ → Stream) (a n : ℕ) → ((j : ℕ) → a ≤ j → j < a + n → f j (g j) ≡ None)
    → first_each f a (map g (range_with_len a n)) ≡ None
none-each f g a zero none = refl
none-each f g a (suc n) none =
    let here : f a (g a) ≡ None = none a (omega arith) (omega arith) in
    let later : first_each f (a + 1) (map g (range_with_len (a + 1) n)) ≡ None =
    none-each f g (a + 1) n (λ j low high. none j (omega arith) (omega arith)) in
    rw here (rw later)

-- no number below another is that one
fresh : (x a n : ℕ) → a + n ≤ x → list_any (nat_eq x) (range_with_len a n) ≡ false
fresh x a zero small = refl
fresh x a (suc n) small =
    let other : nat_eq x a ≡ false = grind (arith, nat_tests) in
    let rest : list_any (nat_eq x) (range_with_len (a + 1) n) ≡ false = fresh x (a + 1) n (omega arith) in
    rw other (rw rest)

-- among some positions there is one once at most
later-none : (at a n : ℕ) → at < a → filter (λ start. nat_eq at start || false) (range_with_len a n) ≡ []
later-none at a zero small = refl
later-none at a (suc n) small =
    let other : nat_eq at a ≡ false = grind (arith, nat_tests) in
    let rest : filter (λ start. nat_eq at start || false) (range_with_len (a + 1) n) ≡ [] = later-none at (a + 1) n (omega arith) in
    rw other rest

not-shared : (at a n : ℕ) → is_shared (reach_of (filter (λ start. nat_eq at start || false) (range_with_len a n))) ≡ false
not-shared at a zero = refl
not-shared at a (suc n) = by_test (nat_eq at a) refl (not-shared at (a + 1) n)
  where
    by_test : (test : Bool) → nat_eq at a ≡ test → is_shared (reach_of (filter (λ start. nat_eq at start || false) (range_with_len (a + 1) n))) ≡ false
        → is_shared (reach_of (filter (λ start. nat_eq at start || false) (range_with_len a (suc n)))) ≡ false
    by_test true is later =
        let rest : filter (λ start. nat_eq at start || false) (range_with_len (a + 1) n) ≡ [] = later-none at (a + 1) n (grind (arith, nat_tests)) in
        rw is (rw rest)
    by_test false is later = rw is later

-- nothing follows a stream of the sample
no-next : (streams : List Stream) (seed j : ℕ) → effective_next streams (sampled_stream seed j) ≡ None
no-next streams seed j = by_test (is_endless (sampled_stream seed j).mode) refl
  where
    by_test : (test : Bool) → is_endless (sampled_stream seed j).mode ≡ test → effective_next streams (sampled_stream seed j) ≡ None
    by_test true is = rw is
    by_test false is = rw is

no-link : (streams : List Stream) (seed a n at : ℕ) → link_at (map (effective_next streams) (map (sampled_stream seed) (range_with_len a n))) at ≡ None
no-link streams seed a zero at = refl
no-link streams seed a (suc n) zero = no-next streams seed a
no-link streams seed a (suc n) (suc at) = no-link streams seed (a + 1) n at

-- a chain over streams that nothing follows comes to its first stream alone
comes-alone : (links : List (Option ℕ)) (at start : ℕ) → link_at links start ≡ None → comes_to links at start ≡ (nat_eq at start || false)
unfolding visits
comes-alone links at start none = rw none

-- each stream of the sample starts by itself
all-start : (seed a n position : ℕ) → starts_from position (map (sampled_stream seed) (range_with_len a n)) ≡ range_with_len position n
all-start seed a zero position = refl
all-start seed a (suc n) position = ap (λ rest. position ∷ rest) (all-start seed (a + 1) n (position + 1))

filter-same : (p q : ℕ → Bool) (xs : List ℕ) → ((x : ℕ) → p x ≡ q x) → filter p xs ≡ filter q xs
filter-same p q [] same = refl
filter-same p q (x ∷ xs) same = rw (same x) (rw (filter-same p q xs same))

-- the ids of a sample's streams
ids-of : (seed a n : ℕ) → ids (map (sampled_stream seed) (range_with_len a n)) ≡ range_with_len (a + 1) n
ids-of seed a zero = refl
ids-of seed a (suc n) = ap (λ rest. (a + 1) ∷ rest) (ids-of seed (a + 1) n)

take-range : (a n k : ℕ) → k ≤ n → take k (range_with_len a n) ≡ range_with_len a k
take-range a n zero small = refl
take-range a zero (suc k) small = absurd (omega arith)
take-range a (suc n) (suc k) small = ap (λ rest. a ∷ rest) (take-range (a + 1) n k (omega arith))

-- no rule over several streams is broken
pub several-kept : (seed n : ℕ) → cross_rules (sampled seed n) ≡ None
unfolding cross_rules sampled
several-kept seed n =
    let g : ℕ → Stream = sampled_stream seed in
    let streams : List Stream = map g (range_with_len 0 n) in
    let once : first_each (duplicate_refusal (ids streams)) 0 streams ≡ None =
    none-each (duplicate_refusal (ids streams)) g 0 n (λ j low high. new-id seed n j (omega arith)) in
    let found : first_each (lost_refusal (ids streams)) 0 streams ≡ None =
    none-each (lost_refusal (ids streams)) g 0 n (λ j low high. refl) in
    let alone : first_each (shared_refusal (links streams) (starts streams)) 0 streams ≡ None =
    none-each (shared_refusal (links streams) (starts streams)) g 0 n (λ j low high. alone-at seed n j) in
    let flowless : first_each (flow_refusal streams) 0 streams ≡ None =
    none-each (flow_refusal streams) g 0 n (λ j low high. refl) in
    rw once (rw found (rw alone (rw flowless)))
  where
    new-id : (seed n j : ℕ) → j < n → duplicate_refusal (ids (map (sampled_stream seed) (range_with_len 0 n))) j (sampled_stream seed j) ≡ None
    new-id seed n j small =
        let front : take j (ids (map (sampled_stream seed) (range_with_len 0 n))) ≡ range_with_len 1 j =
        ap (take j) (ids-of seed 0 n) ∙ take-range 1 n j (omega arith) in
        let new : list_any (nat_eq (j + 1)) (range_with_len 1 j) ≡ false = fresh (j + 1) 1 j (omega arith) in
        rw front (rw new)

    alone-at : (seed n j : ℕ)
        → shared_refusal (links (map (sampled_stream seed) (range_with_len 0 n))) (starts (map (sampled_stream seed) (range_with_len 0 n))) j (sampled_stream seed j) ≡ None
    alone-at seed n j =
        let streams : List Stream = map (sampled_stream seed) (range_with_len 0 n) in
        let comes : filter (comes_to (links streams) j) (starts streams) ≡ filter (λ start. nat_eq j start || false) (range_with_len 0 n) =
        filter-same (comes_to (links streams) j) (λ start. nat_eq j start || false) (starts streams) (λ start. comes-alone (links streams) j start (no-link streams seed 0 n start))
        ∙ ap (filter (λ start. nat_eq j start || false)) (all-start seed 0 n 0) in
        rw comes (rw (not-shared j 0 n))
