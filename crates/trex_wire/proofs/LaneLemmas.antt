-- What arrives is what the two lanes have, and no two copies have one record and one number.
use Rattle.std.proofs.Common.{◌≡◌, ℕ, zero, suc, ◌+◌, ◌*◌, ◌/◌, ◌%◌, ◌<◌, ◌≤◌, inl, inr, Bool, true, false, cond, nat_lt, is_some, Option, None, Some, List, [], ◌∷◌, ◌++◌, length, map, refl, sym, ap, ◌∙◌, subst, arith, add-zero, zero-add}
use Rattle.std.proofs.lemmas.List.Sorted.{Contains-permutation, IsPermutation-append, IsPermutation-cons, IsPermutation-map, IsPermutation-middle, IsPermutation-refl, IsPermutation-sym, IsPermutation-trans}
use Rattle.std.specs.List.{AllByRecursion, Contains, filter, range_with_len, slice_get, slice_index_or}
use Rattle.std.specs.List.Sorted.{IsPermutation}
use Rattle.trex_io.specs.Seen.{Seen}
use Rattle.trex_merge.specs.declared.key.Key.{Key}
use Rattle.trex_merge.specs.Order.{AreApart, AreDistinct, Has, HaveSame, ordered}
use Rattle.trex_merge.proofs.FrameLemmas.{map-filter}
use Rattle.trex_merge.proofs.OrderLemmas.{all_at, all_from, filter-ordered, ordered_is_only, pairs-filter, rising-ordered, same-ordered}
use Rattle.trex_merge.proofs.ListLemmas.{all-append, pairs-append}
use Rattle.trex_stats.specs.Counts.{glimpse_by, stamp_at, stamped_of}
use Rattle.trex_stats.specs.declared.glimpse.Glimpse.{Glimpse}
use Rattle.trex_stats.specs.declared.glimpse.Glimpse.TheVariants.{Plain, Stamped}
use Rattle.trex_vars.specs.Value.{word_at}
use Rattle.trex_wire.specs.declared.lanes.Due.{Due}
use Rattle.trex_wire.specs.declared.spec.WireSpec.{WireSpec}
use Rattle.trex_wire.specs.Lanes.{AreOf, IsOf, both, came_by, due_of, glimpse_at, key_in, lane, plain_by, plain_of}
use Rattle.trex_wire.specs.Wired.{arrival, arrivals, comes, comes_by, copies, copies_by, seen_at, seen_then, wired}
use Rattle.trex_wire.proofs.OrderLemmas.{distinct_moved}

-- a record has no copy, one or two
pub copies_any : (P : ℕ → Type 0) (ask : WireSpec) (w : ℕ) → P 0 → P 1 → P 2 → P (copies_by ask w)
copies_any P ask w none one two =
    elim (nat_lt (w % 1000000) ask.loss) as (λ t. P (cond t 0 (cond (nat_lt (w / 1000000 % 1000000) ask.copy) 2 1))) [
      | true ↦ none
      | false ↦ elim (nat_lt (w / 1000000 % 1000000) ask.copy) as (λ t. P (cond t 2 1)) [ true ↦ two | false ↦ one ]
    ]

-- a copy leaves nothing in its lane, or itself
due_any : (P : List Due → Type 0) (time place : ℕ) (glimpse : Glimpse) → P [] → ((due : Due) → due.place ≡ place → P (due ∷ [])) → P (due_of time place glimpse)
due_any P time place Plain none one = none
due_any P time place (Stamped flow sequence sent) none one = one _ refl

came_any : (P : List Due → Type 0) (ask : WireSpec) (j place time : ℕ) (glimpse : Glimpse) (w v : ℕ) → P [] → ((due : Due) → due.place ≡ place → P (due ∷ [])) → P (came_by ask j place time glimpse w v)
came_any P ask j place time glimpse w v none one =
    elim (nat_lt j (copies_by ask w)) as (λ t. P (cond t (due_of (comes_by ask time v) place glimpse) [])) [
      | true ↦ due_any P (comes_by ask time v) place glimpse none one
      | false ↦ none
    ]

-- what a lane gets of record i
abbrev pub came_at : WireSpec → ℕ → ℕ → Seen → List Due
came_at ask j i r = came_by ask j i r.time (glimpse_at r) (word_at ask.seed 0 (3 * i)) (word_at ask.seed 0 (3 * i + 1 + j))

-- ---- records that are the end of all, where the first is record i
abbrev pub EndAll : List Seen → ℕ → List Seen → Type 0
EndAll all i rs = (n : ℕ) → slice_get all (i + n) ≡ slice_get rs n

pub end_first : (all : List Seen) (i : ℕ) (r : Seen) (rs : List Seen) → EndAll all i (r ∷ rs) → slice_get all i ≡ Some r
end_first all i r rs ends = ap (slice_get all) (sym (add-zero i)) ∙ ends 0

pub end_later : (all : List Seen) (i : ℕ) (r : Seen) (rs : List Seen) → EndAll all i (r ∷ rs) → EndAll all (i + 1) rs
end_later all i r rs ends = λ n. let next : i + 1 + n ≡ i + suc n = omega arith in ap (slice_get all) next ∙ ends (suc n)

pub end_whole : (rs : List Seen) → EndAll rs 0 rs
end_whole rs = λ n. ap (slice_get rs) (zero-add n)

-- ---- what arrives of records that count for a flow is what the lanes have

-- whether a copy is of such a record
abbrev pub is_stamped_in : List Seen → Key → Bool
is_stamped_in all k = is_some (stamp_at (seen_at all k))

filter_kept : (p : Key → Bool) (a : Key) (ks : List Key) → p a ≡ true → filter p (a ∷ ks) ≡ a ∷ filter p ks
filter_kept p a ks is = ap (λ (t : Bool). cond t (a ∷ filter p ks) (filter p ks)) is

filter_left : (p : Key → Bool) (a : Key) (ks : List Key) → p a ≡ false → filter p (a ∷ ks) ≡ filter p ks
filter_left p a ks is = ap (λ (t : Bool). cond t (a ∷ filter p ks) (filter p ks)) is

abbrev counts_for_flow : Glimpse → Bool
counts_for_flow Plain = false
counts_for_flow (Stamped flow sequence sent) = true

stamped_counts : (r : Seen) → is_some (stamp_at r) ≡ counts_for_flow (glimpse_at r)
stamped_counts r = elim (stamp_at r) as (λ o. is_some o ≡ counts_for_flow (glimpse_by o)) [ None ↦ refl | Some s ↦ refl ]

-- one record more, of which the counts take this
moved_in_front : (ask : WireSpec) (p : Key → Bool) (i time : ℕ) (glimpse : Glimpse) (rest : List Key) (first second : List Due)
    → p (arrival ask i time 0) ≡ counts_for_flow glimpse → p (arrival ask i time 1) ≡ counts_for_flow glimpse → IsPermutation (filter p rest) (both first second)
    → IsPermutation (filter p (map (arrival ask i time) (range_with_len 0 (copies ask i)) ++ rest))
    (both (came_by ask 0 i time glimpse (word_at ask.seed 0 (3 * i)) (word_at ask.seed 0 (3 * i + 1 + 0)) ++ first) (came_by ask 1 i time glimpse (word_at ask.seed 0 (3 * i)) (word_at ask.seed 0 (3 * i + 1 + 1)) ++ second))
moved_in_front ask p i time Plain rest first second left other later =
    let a = arrival ask i time 0 in
    let b = arrival ask i time 1 in
    let P : List Key → Type 0 = λ ks. IsPermutation ks (both first second) in
    copies_any (λ (c : ℕ). IsPermutation (filter p (map (arrival ask i time) (range_with_len 0 c) ++ rest)) (both (cond (nat_lt 0 c) [] [] ++ first) (cond (nat_lt 1 c) [] [] ++ second))) ask
    (word_at ask.seed 0 (3 * i)) later (subst P (sym (filter_left p a rest left)) later)
    (subst P (sym (filter_left p a (b ∷ rest) left ∙ filter_left p b rest other)) later)
moved_in_front ask p i time (Stamped flow sequence sent) rest first second kept again later =
    let a = arrival ask i time 0 in
    let b = arrival ask i time 1 in
    let due_a = due_of a.time i (Stamped flow sequence sent) in
    let due_b = due_of b.time i (Stamped flow sequence sent) in
    let others = map (key_in 0) first in
    let behind = map (key_in 1) second in
    let ks = filter p rest in
    copies_any (λ (c : ℕ). IsPermutation (filter p (map (arrival ask i time) (range_with_len 0 c) ++ rest)) (both (cond (nat_lt 0 c) due_a [] ++ first) (cond (nat_lt 1 c) due_b [] ++ second))) ask
    (word_at ask.seed 0 (3 * i)) later
    (subst (λ (l : List Key). IsPermutation l (a ∷ both first second)) (sym (filter_kept p a rest kept)) (IsPermutation-cons a ks (both first second) later))
    (subst (λ (l : List Key). IsPermutation l (a ∷ (others ++ b ∷ behind)))
    (sym (filter_kept p a (b ∷ rest) kept ∙ ap (λ (l : List Key). a ∷ l) (filter_kept p b rest again)))
    (IsPermutation-cons a (b ∷ ks) (others ++ b ∷ behind)
    (IsPermutation-trans (b ∷ ks) (b ∷ both first second) (others ++ b ∷ behind) (IsPermutation-cons b ks (both first second) later)
    (IsPermutation-sym (others ++ b ∷ behind) (b ∷ both first second) (IsPermutation-middle others b behind)))))

arrivals_moved : (ask : WireSpec) (all : List Seen) (i : ℕ) (rs : List Seen) → EndAll all i rs
    → IsPermutation (filter (is_stamped_in all) (arrivals ask i rs)) (both (lane ask 0 i rs) (lane ask 1 i rs))
arrivals_moved ask all i [] ends = IsPermutation-refl []
arrivals_moved ask all i (r ∷ rs) ends =
    let here = end_first all i r rs ends in
    let as_sent = λ (j : ℕ). ap (λ (o : Option Seen). is_some (stamp_at (seen_then (arrival ask i r.time j).time o))) here ∙ stamped_counts r in
    moved_in_front ask (is_stamped_in all) i r.time (glimpse_at r) (arrivals ask (i + 1) rs) (lane ask 0 (i + 1) rs) (lane ask 1 (i + 1) rs) (as_sent 0) (as_sent 1)
    (arrivals_moved ask all (i + 1) rs (end_later all i r rs ends))

-- Two lists have what the lanes have, in any order.
pub record AreMoved (ask : WireSpec) (rs : List Seen) (first second : List Due) : Type 0 where
  pub moved : IsPermutation (lane ask 0 0 rs) first
  pub again : IsPermutation (lane ask 1 0 rs) second

-- lanes that were put in another order
pub are_moved : (ask : WireSpec) (rs : List Seen) (one two here there first second : List Due) → one ≡ lane ask 0 0 rs → two ≡ lane ask 1 0 rs
    → IsPermutation one here → IsPermutation two there → first ≡ here → second ≡ there → AreMoved ask rs first second
are_moved ask rs one two here there first second whole other moved again same too =
    record { moved = rw (same, ← whole) moved; again = rw (too, ← other) again }

both_moved : (ask : WireSpec) (rs : List Seen) (first second : List Due) → AreMoved ask rs first second
    → IsPermutation (filter (is_stamped_in rs) (arrivals ask 0 rs)) (both first second)
both_moved ask rs first second lanes =
    IsPermutation-trans (filter (is_stamped_in rs) (arrivals ask 0 rs)) (both (lane ask 0 0 rs) (lane ask 1 0 rs)) (both first second) (arrivals_moved ask rs 0 rs (end_whole rs))
    (IsPermutation-append (map (key_in 0) (lane ask 0 0 rs)) (map (key_in 0) first) (map (key_in 1) (lane ask 1 0 rs)) (map (key_in 1) second)
    (IsPermutation-map (key_in 0) (lane ask 0 0 rs) first lanes.moved) (IsPermutation-map (key_in 1) (lane ask 1 0 rs) second lanes.again))

-- ---- how many copies there are

-- those in the lanes and the others are all that arrive
come_in_front : (ask : WireSpec) (i time : ℕ) (glimpse : Glimpse) (w v v' : ℕ) (rest : List Key) (first second : List Due) (plain : ℕ) → length first + length second + plain ≡ length rest
    → length (came_by ask 0 i time glimpse w v ++ first) + length (came_by ask 1 i time glimpse w v' ++ second) + (plain_by 0 ask w glimpse + plain_by 1 ask w glimpse + plain)
    ≡ length (map (arrival ask i time) (range_with_len 0 (copies_by ask w)) ++ rest)
come_in_front ask i time Plain w v v' rest first second plain later =
    copies_any (λ (c : ℕ). length (cond (nat_lt 0 c) [] [] ++ first) + length (cond (nat_lt 1 c) [] [] ++ second) + (cond (nat_lt 0 c) 1 0 + cond (nat_lt 1 c) 1 0 + plain) ≡ length (map (arrival ask i time) (range_with_len 0 c) ++ rest)) ask
    w (omega (arith, later)) (omega (arith, later)) (omega (arith, later))
come_in_front ask i time (Stamped flow sequence sent) w v v' rest first second plain later =
    let due_a = due_of (comes_by ask time v) i (Stamped flow sequence sent) in
    let due_b = due_of (comes_by ask time v') i (Stamped flow sequence sent) in
    copies_any (λ (c : ℕ). length (cond (nat_lt 0 c) due_a [] ++ first) + length (cond (nat_lt 1 c) due_b [] ++ second) + (cond (nat_lt 0 c) 0 0 + cond (nat_lt 1 c) 0 0 + plain) ≡ length (map (arrival ask i time) (range_with_len 0 c) ++ rest)) ask
    w (omega (arith, later)) (omega (arith, later)) (omega (arith, later))

pub all_come : (ask : WireSpec) (i : ℕ) (rs : List Seen) → length (lane ask 0 i rs) + length (lane ask 1 i rs) + plain_of ask i rs ≡ length (arrivals ask i rs)
all_come ask i [] = refl
all_come ask i (r ∷ rs) =
    come_in_front ask i r.time (glimpse_at r) (word_at ask.seed 0 (3 * i)) (word_at ask.seed 0 (3 * i + 1 + 0)) (word_at ask.seed 0 (3 * i + 1 + 1)) (arrivals ask (i + 1) rs) (lane ask 0 (i + 1) rs)
    (lane ask 1 (i + 1) rs) (plain_of ask (i + 1) rs) (all_come ask (i + 1) rs)

-- at most two of each record
arrivals_short : (ask : WireSpec) (i : ℕ) (rs : List Seen) → length (arrivals ask i rs) ≤ length rs + length rs
arrivals_short ask i [] = omega arith
arrivals_short ask i (r ∷ rs) =
    let later = arrivals_short ask (i + 1) rs in
    copies_any (λ (c : ℕ). length (map (arrival ask i r.time) (range_with_len 0 c) ++ arrivals ask (i + 1) rs) ≤ length (r ∷ rs) + length (r ∷ rs)) ask (word_at ask.seed 0 (3 * i))
    (omega (arith, later)) (omega (arith, later)) (omega (arith, later))

pub few_come : (ask : WireSpec) (i : ℕ) (rs : List Seen) → length (lane ask 0 i rs) + length (lane ask 1 i rs) + plain_of ask i rs ≤ length rs + length rs
few_come ask i rs = omega (arith, all_come ask i rs, arrivals_short ask i rs)

-- ---- what is kept of a copy is what the counts take of its record

of_in_front : (all : List Seen) (time i : ℕ) (r : Seen) (glimpse : Glimpse) (dues : List Due) → slice_get all i ≡ Some r → glimpse_at r ≡ glimpse → AreOf all dues
    → AreOf all (due_of time i glimpse ++ dues)
of_in_front all time i r Plain dues here is later = later
of_in_front all time i r (Stamped flow sequence sent) dues here is later = (ap (λ (o : Option Seen). glimpse_at (seen_then time o)) here ∙ is, later)

lane_of_all : (ask : WireSpec) (all : List Seen) (j i : ℕ) (rs : List Seen) → EndAll all i rs → AreOf all (lane ask j i rs)
lane_of_all ask all j i [] ends = tt
lane_of_all ask all j i (r ∷ rs) ends =
    let later = lane_of_all ask all j (i + 1) rs (end_later all i r rs ends) in
    let time = comes ask i r.time j in
    elim (nat_lt j (copies ask i)) as (λ t. AreOf all (cond t (due_of time i (glimpse_at r)) [] ++ lane ask j (i + 1) rs)) [
      | true ↦ of_in_front all time i r (glimpse_at r) (lane ask j (i + 1) rs) (end_first all i r rs ends) refl later
      | false ↦ later
    ]

-- ---- copies are apart

-- what a lane has is of the first record or of a later one
lane_from : (ask : WireSpec) (j i : ℕ) (rs : List Seen) → AllByRecursion (λ (due : Due). i ≤ due.place) (lane ask j i rs)
lane_from ask j i [] = tt
lane_from ask j i (r ∷ rs) =
    let rest = lane ask j (i + 1) rs in
    let later = more rest (lane_from ask j (i + 1) rs) in
    came_any (λ (l : List Due). AllByRecursion (λ (d : Due). i ≤ d.place) (l ++ rest)) ask j i r.time (glimpse_at r) (word_at ask.seed 0 (3 * i)) (word_at ask.seed 0 (3 * i + 1 + j)) later
    (λ due at. (omega (arith, at), later))
  where
    more : (dues : List Due) → AllByRecursion (λ (due : Due). i + 1 ≤ due.place) dues → AllByRecursion (λ (due : Due). i ≤ due.place) dues
    more [] all = tt
    more (due ∷ dues) all = (omega (arith, all.0), more dues all.1)

-- a copy of a record is apart from those of later ones
apart_from_later : (copy : ℕ) (due : Due) (dues : List Due) → AllByRecursion (λ (d : Due). due.place + 1 ≤ d.place) dues
    → AllByRecursion (AreApart (λ k. k) (key_in copy due)) (map (key_in copy) dues)
apart_from_later copy due [] later = tt
apart_from_later copy due (d ∷ dues) later = ((λ same. omega (arith, same.1, later.0)), apart_from_later copy due dues later.1)

pub lane_distinct : (ask : WireSpec) (copy j i : ℕ) (rs : List Seen) → AreDistinct (λ k. k) (map (key_in copy) (lane ask j i rs))
lane_distinct ask copy j i [] = tt
lane_distinct ask copy j i (r ∷ rs) =
    let rest = lane ask j (i + 1) rs in
    let later = lane_distinct ask copy j (i + 1) rs in
    came_any (λ (l : List Due). AreDistinct (λ (k : Key). k) (map (key_in copy) (l ++ rest))) ask j i r.time (glimpse_at r) (word_at ask.seed 0 (3 * i)) (word_at ask.seed 0 (3 * i + 1 + j)) later
    (λ due at. (apart_from_later copy due rest (subst (λ (n : ℕ). AllByRecursion (λ (d : Due). n + 1 ≤ d.place) rest) (sym at) (lane_from ask j (i + 1) rs)), later))

-- the copies of a lane have its stream
stream_in : (copy : ℕ) (dues : List Due) → AllByRecursion (λ (k : Key). k.stream ≡ copy) (map (key_in copy) dues)
stream_in copy [] = tt
stream_in copy (due ∷ dues) = (refl, stream_in copy dues)

pub both_distinct : (ask : WireSpec) (rs : List Seen) (first second : List Due) → AreMoved ask rs first second → AreDistinct (λ k. k) (both first second)
both_distinct ask rs first second lanes =
    pairs-append (AreApart (λ k. k)) (map (key_in 0) first) (map (key_in 1) second)
    (distinct_moved 0 (lane ask 0 0 rs) first lanes.moved (lane_distinct ask 0 0 0 rs))
    (distinct_moved 1 (lane ask 1 0 rs) second lanes.again (lane_distinct ask 1 1 0 rs))
    (λ x y here there same.
    let zero_first = all_at (λ (k : Key). k.stream ≡ 0) (map (key_in 0) first) x (stream_in 0 first) here in
    let one_second = all_at (λ (k : Key). k.stream ≡ 1) (map (key_in 1) second) y (stream_in 1 second) there in
    omega (arith, zero_first, one_second, same.0))

-- ---- lists that are moved have the same values

has_at : {X : Type 0} (xs : List X) (x : X) → Has xs x → Contains xs x
has_at [] x has = absurd has
has_at (a ∷ rest) x (inl same) = (0, omega arith, sym same)
has_at (a ∷ rest) x (inr later) = let found = has_at rest x later in (suc found.0, omega (arith, found.1), found.2)

at_has : {X : Type 0} (xs : List X) (x : X) (k : ℕ) → k < length xs → slice_index_or xs k x ≡ x → Has xs x
at_has [] x k within is = absurd (omega (arith, within))
at_has (a ∷ rest) x zero within is = inl (sym is)
at_has (a ∷ rest) x (suc k) within is = inr (at_has rest x k (omega (arith, within)) is)

has_moved : {X : Type 0} (xs ys : List X) → IsPermutation xs ys → (x : X) → Has xs x → Has ys x
has_moved xs ys moved x has =
    let found = Contains-permutation xs ys x moved (has_at xs x has) in at_has ys x found.0 found.1 found.2

same_moved : {X : Type 0} (xs ys : List X) → IsPermutation xs ys → HaveSame xs ys
same_moved xs ys moved x = (has_moved xs ys moved x, has_moved ys xs (IsPermutation-sym xs ys moved) x)

-- ---- what arrives, in order

-- what arrives is apart
front_distinct : (ask : WireSpec) (i time w : ℕ) → AreDistinct (λ k. k) (map (arrival ask i time) (range_with_len 0 (copies_by ask w)))
front_distinct ask i time w =
    copies_any (λ (c : ℕ). AreDistinct (λ (k : Key). k) (map (arrival ask i time) (range_with_len 0 c))) ask w tt (tt, tt)
    (((λ same. let other = same.0 in cc), tt), (tt, tt))

front_number : (ask : WireSpec) (i time w : ℕ) → AllByRecursion (λ (k : Key). k.number ≡ i) (map (arrival ask i time) (range_with_len 0 (copies_by ask w)))
front_number ask i time w =
    copies_any (λ (c : ℕ). AllByRecursion (λ (k : Key). k.number ≡ i) (map (arrival ask i time) (range_with_len 0 c))) ask w tt (refl, tt) (refl, (refl, tt))

arrivals_from : (ask : WireSpec) (low i : ℕ) (rs : List Seen) → low ≤ i → AllByRecursion (λ (k : Key). low ≤ k.number) (arrivals ask i rs)
arrivals_from ask low i [] below = tt
arrivals_from ask low i (r ∷ rs) below =
    all-append (λ (k : Key). low ≤ k.number) (map (arrival ask i r.time) (range_with_len 0 (copies ask i))) (arrivals ask (i + 1) rs)
    (copies_any (λ (c : ℕ). AllByRecursion (λ (k : Key). low ≤ k.number) (map (arrival ask i r.time) (range_with_len 0 c))) ask (word_at ask.seed 0 (3 * i)) tt (below, tt) (below, (below, tt)))
    (arrivals_from ask low (i + 1) rs (omega (arith, below)))

pub arrivals_distinct : (ask : WireSpec) (i : ℕ) (rs : List Seen) → AreDistinct (λ k. k) (arrivals ask i rs)
arrivals_distinct ask i [] = tt
arrivals_distinct ask i (r ∷ rs) =
    let front = map (arrival ask i r.time) (range_with_len 0 (copies ask i)) in
    let later = arrivals ask (i + 1) rs in
    let w = word_at ask.seed 0 (3 * i) in
    pairs-append (AreApart (λ k. k)) front later (front_distinct ask i r.time w) (arrivals_distinct ask (i + 1) rs)
    (λ x y here there same.
    let number = all_at (λ (k : Key). k.number ≡ i) front x (front_number ask i r.time w) here in
    let past = all_at (λ (k : Key). i + 1 ≤ k.number) later y (arrivals_from ask (i + 1) (i + 1) rs (omega arith)) there in
    omega (arith, number, past, same.1))

-- the copies of two lanes that were put in another order are what arrives of records that count for a flow, in order
ordered_moved : (ask : WireSpec) (rs : List Seen) (first second : List Due) → AreMoved ask rs first second
    → ordered (λ k. k) (both first second) ≡ ordered (λ k. k) (filter (is_stamped_in rs) (arrivals ask 0 rs))
ordered_moved ask rs first second lanes =
    let xs = filter (is_stamped_in rs) (arrivals ask 0 rs) in
    let ys = both first second in
    let same = same_moved xs ys (both_moved ask rs first second lanes) in
    ordered_is_only (λ k. k) (ordered (λ k. k) ys) xs (pairs-filter (AreApart (λ k. k)) (is_stamped_in rs) (arrivals ask 0 rs) (arrivals_distinct ask 0 rs)) (rising-ordered (λ k. k) ys (both_distinct ask rs first second lanes)) (λ x. (
      (λ has. (same x).1 ((same-ordered (λ k. k) ys x).0 has)),
      (λ has. (same-ordered (λ k. k) ys x).1 ((same x).0 has)),
    ))

-- so their records are those of the records that arrive
pub wired_stamped : (ask : WireSpec) (rs : List Seen) (first second : List Due) → AreMoved ask rs first second
    → map (seen_at rs) (ordered (λ k. k) (both first second)) ≡ stamped_of (wired rs ask)
wired_stamped ask rs first second lanes =
    let ks = arrivals ask 0 rs in
    let p = is_stamped_in rs in
    ap (map (seen_at rs)) (ordered_moved ask rs first second lanes ∙ sym (filter-ordered (λ k. k) p ks (arrivals_distinct ask 0 rs)))
    ∙ map-filter (seen_at rs) p (λ (r : Seen). is_some (stamp_at r)) (λ k. refl) (ordered (λ k. k) ks)

-- a lane that was put in another order has the same copies
pub lane_of_moved : (ask : WireSpec) (rs : List Seen) (j : ℕ) (dues : List Due) → IsPermutation (lane ask j 0 rs) dues → AreOf rs dues
lane_of_moved ask rs j dues moved =
    all_from (IsOf rs) dues (λ due has.
    all_at (IsOf rs) (lane ask j 0 rs) due (lane_of_all ask rs j 0 rs (end_whole rs)) (has_moved dues (lane ask j 0 rs) (IsPermutation-sym (lane ask j 0 rs) dues moved) due has))
