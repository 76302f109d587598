-- The flows of some records, in rising order.
use Rattle.std.proofs.Common.{◌≡◌, ℕ, ◌+◌, ◌<◌, ◌≤◌, Bool, true, false, ◌&&◌, ◌||◌, nat_eq, nat_lt, List, [], ◌∷◌, length, Option, Some, None, refl, sym, ap, ◌∙◌, subst, arith, inl, inr, append-nil, IsTrue, ◌↔◌, option_map, if◌then◌else◌}
use Rattle.std.proofs.lemmas.Bool.{cases_lt, eq-eqb, ne_eqb, lt-ltb}
use Rattle.std.proofs.lemmas.Bool.Decides.{nat_tests}
use Rattle.std.proofs.lemmas.Map.Keys.{sorted_head, sorted_tail}
use Rattle.std.specs.List.{AllByRecursion, cons_option, filter, range_with_len}
use Rattle.std.specs.List.Sorted.{IsStrictlySortedBy}
use Rattle.std.specs.Ordering.{nat_cmp}
use Rattle.std.specs.declared.cmp.Ordering.TheVariants.{Less}
use Rattle.trex_io.specs.Seen.{Seen}
use Rattle.trex_stats.specs.Arrivals.{greatest_of}
use Rattle.trex_stamp.specs.declared.header.Stamp.{Stamp}
use Rattle.trex_stats.specs.declared.arrival.Arrival.{Arrival}
use Rattle.trex_stats.specs.Counts.{stamp_at, arrival_of, arrival_in, arrivals, flow_numbers, flows_of}
use Rattle.trex_stats.specs.Ranges.{has, Rises}
use Rattle.trex_stats.proofs.Members.{both_ways, greatest_bounds}
use Rattle.trex_stats.proofs.Spans.{cmp_same, cmp_more, has_below_all, has_inside, Rises-from, Rises-span}

-- ---- numbers that rise

-- keys in order rise
less_of : (x y : ℕ) → nat_cmp x y ≡ Less → x + 1 ≤ y
less_of x y less =
    elim (cases_lt x y) [
      | inl below ↦ omega arith
      | inr not_below ↦ elim (cases_lt y x) [
        | inl above ↦ (let more = cmp_more x y above in cc)
        | inr not_above ↦ (let same = cmp_same x y (omega arith) in cc)
      ]
    ]

all_less : (x : ℕ) (ys : List ℕ) → AllByRecursion (λ y. nat_cmp x y ≡ Less) ys → AllByRecursion (λ y. x + 1 ≤ y) ys
all_less x [] all = tt
all_less x (y ∷ ys) (here, all) = (less_of x y here, all_less x ys all)

rises_from : (low : ℕ) (xs : List ℕ) → AllByRecursion (λ y. low ≤ y) xs → IsStrictlySortedBy nat_cmp xs → Rises low xs
rises_from low [] all sorted = tt
rises_from low (x ∷ xs) (here, all) sorted = (here, rises_from (x + 1) xs (all_less x xs (sorted_head nat_cmp x xs sorted)) (sorted_tail nat_cmp x xs sorted))

from_zero : (xs : List ℕ) → AllByRecursion (λ y. 0 ≤ y) xs
from_zero [] = tt
from_zero (x ∷ xs) = (omega arith, from_zero xs)

-- those of rising numbers that pass a test rise
Rises-filter : (p : ℕ → Bool) (low : ℕ) (xs : List ℕ) → Rises low xs → Rises low (filter p xs)
Rises-filter p low [] rises = tt
Rises-filter p low (x ∷ xs) (here, rises) =
    let rest : Rises (x + 1) (filter p xs) = Rises-filter p (x + 1) xs rises in
    elim (p x) as (λ b. Rises low (if b then x ∷ filter p xs else filter p xs)) [
      | true ↦ (here, rest)
      | false ↦ Rises-from low (x + 1) (filter p xs) (omega arith) rest
    ]

false_true : false ≡ true → ⊥
false_true e = cc

-- a number that is below all others isn't among them
only : (a b : ℕ) (firsts bs : List ℕ) → a < b → Rises (b + 1) bs → has (a ∷ firsts) a ≡ has (b ∷ bs) a → ⊥
only a b firsts bs less rises same =
    let first = eq-eqb a a refl in
    let second = ne_eqb a b (omega arith) in
    let third = has_below_all (b + 1) a bs rises (omega arith) in
    false_true (sym (rw (second, third) at (rw first at same)))

-- behind the first, the same are there
after : (x y : ℕ) (xs ys : List ℕ) → x ≡ y → Rises (x + 1) xs → Rises (x + 1) ys → ((q : ℕ) → has (x ∷ xs) q ≡ has (y ∷ ys) q) → (q : ℕ) → has xs q ≡ has ys q
after x y xs ys first rises others same q =
    elim (cases_lt x q) [
      | inl past ↦ (let one = ne_eqb q x (omega arith) in let other = ne_eqb q y (omega arith) in rw other at (rw one at (same q)))
      | inr not_past ↦ has_below_all (x + 1) q xs rises (omega arith) ∙ sym (has_below_all (x + 1) q ys others (omega arith))
    ]

-- numbers that rise and of which the same are there are the same
same_rising : (low : ℕ) (xs ys : List ℕ) → Rises low xs → Rises low ys → ((q : ℕ) → has xs q ≡ has ys q) → xs ≡ ys
same_rising low [] [] rises others same = refl
same_rising low [] (y ∷ ys) rises others same = let there = same y in let here = eq-eqb y y refl in absurd (false_true (rw here at there))
same_rising low (x ∷ xs) [] rises others same = let there = same x in let here = eq-eqb x x refl in absurd (false_true (sym (rw here at there)))
same_rising low (x ∷ xs) (y ∷ ys) (here, rises) (there, others) same =
    elim (cases_lt x y) [
      | inl less ↦ absurd (only x y xs ys less others (same x))
      | inr not_less ↦ elim (cases_lt y x) [
        | inl more ↦ absurd (only y x ys xs more rises (sym (same y)))
        | inr not_more ↦
            let first : x ≡ y = omega arith in
            let others_x : Rises (x + 1) ys = subst (λ n. Rises (n + 1) ys) (sym first) others in
            let rest = same_rising (x + 1) xs ys rises others_x (after x y xs ys first rises others_x same) in
            cc
      ]
    ]

-- ---- what passes a test

pair : (passes is there other : Bool) → (is ≡ true → passes ≡ other) → ((passes && is) || (there && other)) ≡ ((is || there) && other)
pair true true there other same = let e : true ≡ other = same refl in subst (λ b. true ≡ b) e refl
pair false true true other same = let e : false ≡ other = same refl in subst (λ b. b ≡ b) e refl
pair false true false other same = same refl
pair true false there other same = refl
pair false false there other same = refl

kept_or_not : (b : Bool) (x q : ℕ) (xs : List ℕ) → has (if b then x ∷ xs else xs) q ≡ ((b && nat_eq q x) || has xs q)
kept_or_not true x q xs = refl
kept_or_not false x q xs = refl

test_at : (p : ℕ → Bool) (x q : ℕ) → nat_eq q x ≡ true → p x ≡ p q
test_at p x q is =
    elim (cases_lt q x) [
      | inl less ↦ (let other = ne_eqb q x (omega arith) in cc)
      | inr not_less ↦ elim (cases_lt x q) [
        | inl more ↦ (let other = ne_eqb q x (omega arith) in cc)
        | inr not_more ↦ (let same : x ≡ q = omega arith in ap p same)
      ]
    ]

has-filter : (p : ℕ → Bool) (xs : List ℕ) (q : ℕ) → has (filter p xs) q ≡ (has xs q && p q)
has-filter p [] q = refl
has-filter p (x ∷ xs) q =
    kept_or_not (p x) x q (filter p xs)
    ∙ ap (λ b. (p x && nat_eq q x) || b) (has-filter p xs q)
    ∙ pair (p x) (nat_eq q x) (has xs q) (p q) (test_at p x q)

-- the numbers up to the greatest that are there
and_same : (a b : Bool) → (b ≡ true → a ≡ true) → (a && b) ≡ b
and_same true b all = refl
and_same false true all = all refl
and_same false false all = refl

has_listed : (fs : List ℕ) (q : ℕ) → has (filter (has fs) (range_with_len 0 (greatest_of fs + 1))) q ≡ has fs q
has_listed fs q =
    has-filter (has fs) (range_with_len 0 (greatest_of fs + 1)) q
    ∙ and_same (has (range_with_len 0 (greatest_of fs + 1)) q) (has fs q)
    (λ there. let most = greatest_bounds fs q there in has_inside (greatest_of fs + 1) 0 q (omega arith) (omega arith))

rises_listed : (fs : List ℕ) → Rises 0 (filter (has fs) (range_with_len 0 (greatest_of fs + 1)))
rises_listed fs =
    Rises-filter (has fs) 0 (range_with_len 0 (greatest_of fs + 1))
    (subst (Rises 0) (append-nil (range_with_len 0 (greatest_of fs + 1))) (Rises-span (greatest_of fs + 1) 0 [] tt))

-- ---- flows

-- one record more in front
in_front : (o : Option Stamp) (fs : List ℕ) (q came : ℕ) (ps : List Arrival) → has fs q ≡ nat_lt 0 (length ps)
    → has (cons_option (option_map (λ s. s.flow) o) fs) q ≡ nat_lt 0 (length (cons_option (arrival_in q came o) ps))
in_front None fs q came ps same = same
in_front (Some s) fs q came ps same =
    elim (cases_lt q s.flow) [
      | inl less ↦ (let one = ne_eqb q s.flow (omega arith) in let other = ne_eqb s.flow q (omega arith) in rw (one, other) same)
      | inr not_less ↦ elim (cases_lt s.flow q) [
        | inl more ↦ (let one = ne_eqb q s.flow (omega arith) in let other = ne_eqb s.flow q (omega arith) in rw (one, other) same)
        | inr not_more ↦
            let one = eq-eqb q s.flow (omega arith) in
            let other = eq-eqb s.flow q (omega arith) in
            rw (one, other) (sym (lt-ltb 0 (length (arrival_of came s ∷ ps)) (omega arith)))
      ]
    ]

-- a flow's number is there where it has packets
has-numbers : (rs : List Seen) (q : ℕ) → has (flow_numbers rs) q ≡ nat_lt 0 (length (arrivals rs q))
has-numbers [] q = refl
has-numbers (r ∷ rs) q = in_front (stamp_at r) (flow_numbers rs) q r.time (arrivals rs q) (has-numbers rs q)

some_there : (n : ℕ) → nat_lt 0 n ≡ true → 0 < n
some_there n some = grind (arith, nat_tests)

-- keys in order of the flows that have packets are these flows
pub flows_same : (keys : List ℕ) (rs : List Seen) → IsStrictlySortedBy nat_cmp keys → ((q : ℕ) → IsTrue (has keys q) ↔ (0 < length (arrivals rs q))) → keys ≡ flows_of rs
flows_same keys rs sorted present =
    let fs = flow_numbers rs in
    same_rising 0 keys (flows_of rs) (rises_from 0 keys (from_zero keys) sorted) (rises_listed fs)
    (λ q.
    both_ways (has keys q) (has fs q)
    (λ there. has-numbers rs q ∙ lt-ltb 0 (length (arrivals rs q)) ((present q).0 there))
    (λ there. (present q).1 (some_there (length (arrivals rs q)) (sym (has-numbers rs q) ∙ there)))
    ∙ sym (has_listed fs q))
