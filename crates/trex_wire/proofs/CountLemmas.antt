-- How many copies arrive.
use Rattle.std.proofs.Common.{◌≡◌, ℕ, ◌+◌, ◌*◌, ◌<◌, ◌≤◌, ◌==◌, inl, inr, Bool, true, false, cond, nat_eq, nat_lt, Option, List, [], ◌∷◌, ◌++◌, length, map, refl, sym, subst, ap, ◌∙◌, arith, length-append}
use Rattle.std.proofs.lemmas.Bool.Decides.{eqb_tells, nat_tests}
use Rattle.std.proofs.lemmas.List.{length-map}
use Rattle.std.proofs.lemmas.List.Elements.{filter-append}
use Rattle.std.proofs.lemmas.List.Sorted.{length_permutation}
use Rattle.std.proofs.lemmas.List.Sums.{sum_by-cons}
use Rattle.std.specs.List.{filter, range_with_len, sum_by}
use Rattle.trex_io.specs.Seen.{Seen}
use Rattle.trex_merge.specs.declared.key.Key.{Key}
use Rattle.trex_merge.specs.Order.{is_before, ordered, placed}
use Rattle.trex_merge.proofs.OrderLemmas.{filter-ordered}
use Rattle.trex_stats.specs.Counts.{Counts, CountsFor, StandsFor, arrivals as arrivals_in}
use Rattle.trex_stats.specs.Kept.{AreFlows}
use Rattle.trex_vars.specs.Value.{word_at}
use Rattle.trex_wire.specs.declared.spec.WireSpec.{WireSpec}
use Rattle.trex_wire.specs.declared.lanes.Due.{Due}
use Rattle.trex_wire.specs.Lanes.{lane, plain_of}
use Rattle.trex_wire.specs.Wired.{arrival, arrivals, bytes_of, copies, copies_by, seen_at, seen_then, wired, with_copies}
use Rattle.trex_wire.proofs.LaneLemmas.{AreMoved, EndAll, all_come, arrivals_distinct, copies_any, end_first, end_later, end_whole, few_come}

-- ---- a list in order is as long

length-placed : {X : Type 0} (key : X → Key) (a : X) (xs : List X) → length (placed key a xs) ≡ length xs + 1
length-placed key a [] = refl
length-placed {X = X} key a (b ∷ rest) =
    elim (is_before (key a) (key b)) as (λ t. length (cond t (a ∷ b ∷ rest) (b ∷ placed key a rest)) ≡ length (b ∷ rest) + 1) [
      | true ↦ omega arith
      | false ↦ omega (arith, length-placed key a rest)
    ]

pub length-ordered : {X : Type 0} (key : X → Key) (xs : List X) → length (ordered key xs) ≡ length xs
length-ordered key [] = refl
length-ordered key (a ∷ rest) = omega (arith, length-placed key a (ordered key rest), length-ordered key rest)

-- ---- each record arrives as often as it has copies

abbrev number_is : ℕ → Key → Bool
number_is n k = k.number == n

front_counted : (ask : WireSpec) (i n time w : ℕ) → length (filter (number_is n) (map (arrival ask i time) (range_with_len 0 (copies_by ask w)))) ≡ cond (nat_eq i n) (copies_by ask w) 0
front_counted ask i n time w =
    copies_any (λ (c : ℕ). length (filter (number_is n) (map (arrival ask i time) (range_with_len 0 c))) ≡ cond (nat_eq i n) c 0) ask w
    (elim (nat_eq i n) as (λ t. ◌≡◌ {A = ℕ} 0 (cond t 0 0)) [ true ↦ refl | false ↦ refl ])
    (elim (nat_eq i n) as (λ t. length (cond t (arrival ask i time 0 ∷ []) []) ≡ cond t 1 0) [ true ↦ refl | false ↦ refl ])
    (elim (nat_eq i n) as (λ t. length (cond t (arrival ask i time 0 ∷ cond t (arrival ask i time 1 ∷ []) []) (cond t (arrival ask i time 1 ∷ []) [])) ≡ cond t 2 0) [
      | true ↦ refl
      | false ↦ refl
    ])

-- a record before all others doesn't arrive
none_before : (ask : WireSpec) (i n : ℕ) (rs : List Seen) → n < i → length (filter (number_is n) (arrivals ask i rs)) ≡ 0
none_before ask i n [] before = refl
none_before ask i n (r ∷ rs) before =
    let front = map (arrival ask i r.time) (range_with_len 0 (copies ask i)) in
    let later = arrivals ask (i + 1) rs in
    let other : nat_eq i n ≡ false = grind (arith, nat_tests) in
    let here = front_counted ask i n r.time (word_at ask.seed 0 (3 * i)) ∙ ap (λ (t : Bool). cond t (copies ask i) 0) other in
    ap length (filter-append (number_is n) front later)
    ∙ omega (arith, length-append (filter (number_is n) front) (filter (number_is n) later), here, none_before ask (i + 1) n rs (omega (arith, before)))

arrivals_counted : (ask : WireSpec) (i n : ℕ) (rs : List Seen) → i ≤ n → n < i + length rs → length (filter (number_is n) (arrivals ask i rs)) ≡ copies ask n
arrivals_counted ask i n [] low high = absurd (omega (arith, low, high))
arrivals_counted ask i n (r ∷ rs) low high =
    let front = map (arrival ask i r.time) (range_with_len 0 (copies ask i)) in
    let later = arrivals ask (i + 1) rs in
    let split = ap length (filter-append (number_is n) front later) in
    let long = length-append (filter (number_is n) front) (filter (number_is n) later) in
    let here = front_counted ask i n r.time (word_at ask.seed 0 (3 * i)) in
    elim (eqb_tells i n) [
      | inl same ↦
          let mine : length (filter (number_is n) front) ≡ copies ask n = here ∙ ap (λ (t : Bool). cond t (copies ask i) 0) same.0 ∙ ap (copies ask) same.1 in
          let none : length (filter (number_is n) later) ≡ 0 = none_before ask (i + 1) n rs (omega (arith, same.1)) in
          omega (arith, split, long, mine, none)
      | inr other ↦
          let none : length (filter (number_is n) front) ≡ 0 = here ∙ ap (λ (t : Bool). cond t (copies ask i) 0) other.0 in
          let past : i + 1 ≤ n = omega (arith, low, other.1) in
          let mine : length (filter (number_is n) later) ≡ copies ask n = arrivals_counted ask (i + 1) n rs past (omega (arith, high)) in
          omega (arith, split, long, mine, none)
    ]

pub each_arrives : (ask : WireSpec) (n : ℕ) (rs : List Seen) → n < length rs → length (filter (number_is n) (ordered (λ k. k) (arrivals ask 0 rs))) ≡ copies ask n
each_arrives ask n rs within =
    ap length (filter-ordered (λ k. k) (number_is n) (arrivals ask 0 rs) (arrivals_distinct ask 0 rs))
    ∙ length-ordered (λ k. k) (filter (number_is n) (arrivals ask 0 rs))
    ∙ arrivals_counted ask 0 n rs (omega arith) (omega (arith, within))

-- ---- what arrives and what is lost are what was sent and what was copied

all_counted : (ask : WireSpec) (i : ℕ) (rs : List Seen) → length (arrivals ask i rs) + with_copies 0 ask i rs ≡ length rs + with_copies 2 ask i rs
all_counted ask i [] = refl
all_counted ask i (r ∷ rs) =
    let later = all_counted ask (i + 1) rs in
    let rest = arrivals ask (i + 1) rs in
    copies_any (λ (c : ℕ). length (map (arrival ask i r.time) (range_with_len 0 c) ++ rest) + (cond (c == 0) 1 0 + with_copies 0 ask (i + 1) rs) ≡ length (r ∷ rs) + (cond (c == 2) 1 0 + with_copies 2 ask (i + 1) rs)) ask
    (word_at ask.seed 0 (3 * i)) (omega (arith, later)) (omega (arith, later)) (omega (arith, later))

pub length-wired : (ask : WireSpec) (rs : List Seen) → length (wired rs ask) ≡ length (arrivals ask 0 rs)
length-wired ask rs = length-map (ordered (λ k. k) (arrivals ask 0 rs)) (seen_at rs) ∙ length-ordered (λ k. k) (arrivals ask 0 rs)

pub nothing_lost : (ask : WireSpec) (rs : List Seen) → length (wired rs ask) + with_copies 0 ask 0 rs ≡ length rs + with_copies 2 ask 0 rs
nothing_lost ask rs = omega (arith, length-wired ask rs, all_counted ask 0 rs)

-- as many arrive as the lanes have, also where these were put in another order, and as are in none
pub lanes_arrive : (ask : WireSpec) (rs : List Seen) (first second : List Due) → AreMoved ask rs first second → length first + length second + plain_of ask 0 rs ≡ length (wired rs ask)
lanes_arrive ask rs first second lanes =
    omega (
      arith,
      length-wired ask rs,
      all_come ask 0 rs,
      length_permutation (lane ask 0 0 rs) first lanes.moved,
      length_permutation (lane ask 1 0 rs) second lanes.again,
    )

-- ---- bounds

pub lanes_short : (ask : WireSpec) (rs : List Seen) (first second : List Due) → AreMoved ask rs first second → length first + length second + plain_of ask 0 rs ≤ length rs + length rs
lanes_short ask rs first second lanes =
    omega (arith, few_come ask 0 rs, length_permutation (lane ask 0 0 rs) first lanes.moved, length_permutation (lane ask 1 0 rs) second lanes.again)

-- ---- the bytes of what arrives

sum-placed : {X : Type 0} (f : X → ℕ) (key : X → Key) (a : X) (xs : List X) → sum_by f (placed key a xs) ≡ f a + sum_by f xs
sum-placed f key a [] = sum_by-cons f a []
sum-placed f key a (b ∷ rest) =
    elim (is_before (key a) (key b)) as (λ t. sum_by f (cond t (a ∷ b ∷ rest) (b ∷ placed key a rest)) ≡ f a + sum_by f (b ∷ rest)) [
      | true ↦ sum_by-cons f a (b ∷ rest)
      | false ↦ omega (arith, sum_by-cons f b (placed key a rest), sum-placed f key a rest, sum_by-cons f b rest)
    ]

sum-ordered : {X : Type 0} (f : X → ℕ) (key : X → Key) (xs : List X) → sum_by f (ordered key xs) ≡ sum_by f xs
sum-ordered f key [] = refl
sum-ordered f key (a ∷ rest) = omega (arith, sum-placed f key a (ordered key rest), sum-ordered f key rest, sum_by-cons f a rest)

-- the bytes of a copy
abbrev bytes_in : List Seen → Key → ℕ
bytes_in all k = length (seen_at all k).bytes

-- a sum over records that arrive is one over their copies
sum_seen : (all : List Seen) (ks : List Key) → sum_by (λ (r : Seen). length r.bytes) (map (seen_at all) ks) ≡ sum_by (bytes_in all) ks
sum_seen all [] = refl
sum_seen all (k ∷ ks) =
    omega (arith, sum_by-cons (λ (r : Seen). length r.bytes) (seen_at all k) (map (seen_at all) ks), sum_seen all ks, sum_by-cons (bytes_in all) k ks)

all_weighed : (ask : WireSpec) (all : List Seen) (i : ℕ) (rs : List Seen) → EndAll all i rs → sum_by (bytes_in all) (arrivals ask i rs) ≡ bytes_of ask i rs
all_weighed ask all i [] ends = refl
all_weighed ask all i (r ∷ rs) ends =
    let rest = arrivals ask (i + 1) rs in
    let f = bytes_in all in
    let w = word_at ask.seed 0 (3 * i) in
    let here = end_first all i r rs ends in
    let a = arrival ask i r.time 0 in
    let b = arrival ask i r.time 1 in
    let first : f a ≡ length r.bytes = ap (λ (o : Option Seen). length (seen_then a.time o).bytes) here in
    let second : f b ≡ length r.bytes = ap (λ (o : Option Seen). length (seen_then b.time o).bytes) here in
    let later : sum_by f rest ≡ bytes_of ask (i + 1) rs = all_weighed ask all (i + 1) rs (end_later all i r rs ends) in
    let n = length r.bytes in
    copies_any (λ (c : ℕ). sum_by f (map (arrival ask i r.time) (range_with_len 0 c) ++ rest) ≡ cond (nat_lt 0 c) n 0 + cond (nat_lt 1 c) n 0 + bytes_of ask (i + 1) rs) ask w
    (omega (arith, later)) (omega (arith, later, first, sum_by-cons f a rest)) (omega (arith, later, first, second, sum_by-cons f a (b ∷ rest), sum_by-cons f b rest))

pub bytes_arrive : (ask : WireSpec) (rs : List Seen) → sum_by (λ (r : Seen). length r.bytes) (wired rs ask) ≡ bytes_of ask 0 rs
bytes_arrive ask rs =
    sum_seen rs (ordered (λ k. k) (arrivals ask 0 rs)) ∙ sum-ordered (bytes_in rs) (λ k. k) (arrivals ask 0 rs)
    ∙ all_weighed ask rs 0 rs (end_whole rs)

-- counts that stand for what arrives but for the bytes, and then have those too
pub stands_whole : (ask : WireSpec) (rs : List Seen) (mid new : Counts) → CountsFor mid (wired rs ask) → new.records ≡ mid.records → new.stamped ≡ mid.stamped
    → new.flows ≡ mid.flows → new.bytes ≡ bytes_of ask 0 rs → StandsFor new (wired rs ask)
stands_whole ask rs mid new counts records stamped flows bytes = record {
  records = records ∙ counts.records;
  bytes = bytes ∙ sym (bytes_arrive ask rs);
  stamped = stamped ∙ counts.stamped;
  flows = subst (λ l. AreFlows l (arrivals_in (wired rs ask))) (sym flows) counts.flows;
}
