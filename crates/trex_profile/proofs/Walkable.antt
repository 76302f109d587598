-- The chains of a profile that keeps the rules can be walked.
use Rattle.std.proofs.Common.{◌≡◌, ℕ, zero, suc, ◌+◌, ◌<◌, ◌==◌, if◌then◌else◌, Bool, true, false, List, [], ◌∷◌, ◌++◌, length, map, nat_eq, nat_lt, Option, Some, None, refl, sym, ap, ◌∙◌, subst, arith}
use Rattle.std.specs.List.{AllByRecursion, slice_get, filter_map, cons_option}
use Rattle.std.specs.Option.{option_map, option_and_then}
use Rattle.std.proofs.lemmas.Bool.{eqb-false}
use Rattle.std.proofs.lemmas.List.{length-map, map-append}
use Rattle.std.proofs.lemmas.Option.{slice_get-map, slice_get_within}
use Rattle.trex_merge.specs.Order.{EachPair, joined}
use Rattle.trex_sched.specs.declared.chain.Leg.{Leg}
use Rattle.trex_sched.specs.declared.mode.Mode.{Mode}
use Rattle.trex_sched.specs.declared.mode.Mode.TheVariants.{Continuous, SingleBurst, MultiBurst}
use Rattle.trex_sched.specs.Times.{HasPackets, size, size_of}
use Rattle.trex_sched.specs.Chain.{Chain, IsChain}
use Rattle.trex_sched.specs.Walks.{HaveDistinctStreams}
use Rattle.trex_profile.specs.declared.chains.reach.Reach.{Reach}
use Rattle.trex_profile.specs.declared.chains.reach.Reach.TheVariants.{Shared}
use Rattle.trex_profile.specs.declared.rule.Rule.TheVariants.{BadLength, RateZero, RateTooHigh, CountZero, SharedStream}
use Rattle.trex_profile.specs.Order.{first, first_each}
use Rattle.trex_profile.specs.Refusal.{rule, in_stream}
use Rattle.trex_profile.specs.Stream.{Stream}
use Rattle.trex_profile.specs.Rules.{length_wrong, numerator, no_packets, time_rules, value_rules, value_refusal}
use Rattle.trex_profile.specs.Admission.{refusal_of}
use Rattle.trex_profile.specs.Chains.{leg_at, leg_of, chain_by, starts, chains_of}
use Rattle.trex_profile.specs.Cross.{rule_at, duplicate_refusal, lost_refusal, shared_refusal, cross_rules}
use Rattle.trex_profile.specs.Links.{ids, place_of, is_endless, if_enabled, effective_next, links}
use Rattle.trex_profile.specs.Reached.{AreRising}
use Rattle.trex_profile.specs.Visits.{Round, has, link_at, round_of, reach_at, is_shared}
use Rattle.trex_profile.proofs.Rounds.{has-more, has-head, AreApart, AreUnshared, IsRound, round_of-round, round_of-some, distinct-apart, orders, orders-apart}
use Rattle.trex_profile.proofs.OrderLemmas.{first-none, starts_from-rising}

option_map-none : {A B : Type 0} (f : A → B) (o : Option A) → option_map f o ≡ None → o ≡ None
option_map-none f None none = refl
option_map-none f (Some x) none = cc

rule-none : (test : Bool) → rule CountZero test ≡ None → test ≡ false
rule-none true none = cc
rule-none false none = refl

-- a mode of which no burst is empty
has_packets : (mode : Mode) → no_packets mode ≡ false → HasPackets mode
has_packets Continuous some = tt
has_packets (SingleBurst total) some = let not_zero = eqb-false total 0 some in omega arith
has_packets (MultiBurst per_burst ibg count) some = let not_zero = eqb-false per_burst 0 some in omega arith

-- of four rules the last isn't broken
fourth-none : {E : Type 0} (a b c d : Option E) → first (a ∷ b ∷ c ∷ d ∷ []) ≡ None → d ≡ None
fourth-none None None None None none = refl
fourth-none (Some e) b c d none = cc
fourth-none None (Some e) c d none = cc
fourth-none None None (Some e) d none = cc
fourth-none None None None (Some e) none = cc

value-kept : (s : Stream) → value_rules s ≡ None → HasPackets s.mode
unfolding value_rules time_rules
value-kept s none =
    let times = first-none (time_rules s) _ none in
    has_packets s.mode (rule-none (no_packets s.mode)
    (fourth-none (rule BadLength (length_wrong s.template)) (rule RateZero (s.rate.value == 0)) (rule RateTooHigh (nat_lt (numerator s) s.rate.value))
    (rule CountZero (no_packets s.mode)) times.0))

values-kept : (position : ℕ) (streams : List Stream) → first_each value_refusal position streams ≡ None → AllByRecursion (λ (s : Stream). HasPackets s.mode) streams
values-kept position [] none = tt
values-kept position (s ∷ streams) none =
    let here = first-none (value_refusal position s) (first_each value_refusal (position + 1) streams ∷ []) none in
    let rest = first-none (first_each value_refusal (position + 1) streams) [] here.1 in
    (value-kept s (option_map-none (in_stream position) (value_rules s) here.0), values-kept (position + 1) streams rest.0)

-- what holds of each item holds of one
all-at : {X : Type 0} (P : X → Type 0) (xs : List X) (place : ℕ) (x : X) → AllByRecursion P xs → slice_get xs place ≡ Some x → P x
all-at P [] place x all is = absurd (cc)
all-at P (y ∷ xs) zero x all is = let same : y ≡ x = cc in subst P same all.0
all-at P (y ∷ xs) (suc place) x all is = all-at P xs place x all.1 is

-- a link, as the stream at its position gives it
link-by : (streams : List Stream) (at : ℕ) (s : Stream) → slice_get streams at ≡ Some s → link_at (links streams) at ≡ effective_next streams s
link-by streams at s there =
    ap (option_and_then (λ next. next)) (slice_get-map (effective_next streams) streams at ∙ ap (option_map (effective_next streams)) there)

-- a stream that is found stands in the list
if_enabled-within : (streams : List Stream) (at next : ℕ) → if_enabled streams at ≡ Some next → next < length streams
if_enabled-within streams at next is = by_stream (slice_get streams at) refl is
  where
    by_test : (s : Stream) → slice_get streams at ≡ Some s → (test : Bool) → (if test then Some at else None) ≡ Some next → next < length streams
    by_test s there true found = let same : at ≡ next = cc in let inside = slice_get_within streams at s there in omega arith
    by_test s there false found = absurd (cc)

    by_stream : (o : Option Stream) → slice_get streams at ≡ o → option_and_then (λ (s : Stream). if s.enabled then Some at else None) o ≡ Some next → next < length streams
    by_stream None there found = absurd (cc)
    by_stream (Some s) there found = by_test s there s.enabled found

next-within : (streams : List Stream) (s : Stream) (next : ℕ) → effective_next streams s ≡ Some next → next < length streams
next-within streams s next is = by_test (is_endless s.mode) is
  where
    by_place : (o : Option ℕ) → option_and_then (if_enabled streams) o ≡ Some next → next < length streams
    by_place None found = absurd (cc)
    by_place (Some at) found = if_enabled-within streams at next found

    by_test : (test : Bool) → (if test then None else option_and_then (if_enabled streams) (option_and_then (place_of (ids streams)) s.next)) ≡ Some next → next < length streams
    by_test true found = absurd (cc)
    by_test false found = by_place (option_and_then (place_of (ids streams)) s.next) found

-- the links lead to streams
links-within : (streams : List Stream) (at next : ℕ) → link_at (links streams) at ≡ Some next → next < length (links streams)
links-within streams at next is = rw length-map (by_stream (slice_get streams at) refl)
  where
    by_stream : (o : Option Stream) → slice_get streams at ≡ o → next < length streams
    by_stream None there =
        let none : link_at (links streams) at ≡ None =
        ap (option_and_then (λ next. next)) (slice_get-map (effective_next streams) streams at ∙ ap (option_map (effective_next streams)) there) in absurd (cc)
    by_stream (Some s) there = next-within streams s next (sym (link-by streams at s there) ∙ is)

-- nothing follows a stream that never ends
endless-last : (streams : List Stream) (at : ℕ) (s : Stream) → slice_get streams at ≡ Some s → size_of s.mode ≡ None → link_at (links streams) at ≡ None
endless-last streams at s there endless = link-by streams at s there ∙ by_mode s.mode endless
  where
    by_mode : (mode : Mode) → size_of mode ≡ None
        → (if is_endless mode then None else option_and_then (if_enabled streams) (option_and_then (place_of (ids streams)) s.next)) ≡ None
    by_mode Continuous never = refl
    by_mode (SingleBurst total) never = absurd (cc)
    by_mode (MultiBurst per_burst ibg zero) never = refl
    by_mode (MultiBurst per_burst ibg (suc count)) never = absurd (cc)

-- what holds of each stream's leg holds of the legs at these positions
pub legs-all : (P : Leg → Type 0) (streams : List Stream) → ((at : ℕ) (s : Stream) → slice_get streams at ≡ Some s → P (leg_at at s)) → (order : List ℕ)
    → AllByRecursion P (filter_map (leg_of streams) order)
legs-all P streams each [] = tt
legs-all P streams each (at ∷ order) = by_stream (slice_get streams at) refl (legs-all P streams each order)
  where
    by_stream : (o : Option Stream) → slice_get streams at ≡ o → AllByRecursion P (filter_map (leg_of streams) order)
        → AllByRecursion P (cons_option (option_map (leg_at at) o) (filter_map (leg_of streams) order))
    by_stream None there rest = rest
    by_stream (Some s) there rest = (each at s there, rest)

past : (streams : List Stream) (at : ℕ) → at < length streams → slice_get streams at ≡ None → ⊥
past [] at small is = absurd (omega arith)
past (s ∷ streams) zero small is = absurd (cc)
past (s ∷ streams) (suc at) small is = past streams at (omega arith) is

-- the streams of legs
abbrev streams_of : List Leg → List ℕ
streams_of legs = map (λ (leg : Leg). leg.stream) legs

-- the legs at these positions are of the streams at these positions
legs-order : (streams : List Stream) (order : List ℕ) → ((at : ℕ) → has order at ≡ true → at < length streams) → streams_of (filter_map (leg_of streams) order) ≡ order
legs-order streams [] below = refl
legs-order streams (at ∷ order) below =
    by_stream (slice_get streams at) refl (legs-order streams order (λ other among. below other (has-more (nat_eq other at) order other among)))
  where
    by_stream : (o : Option Stream) → slice_get streams at ≡ o → streams_of (filter_map (leg_of streams) order) ≡ order
        → streams_of (cons_option (option_map (leg_at at) o) (filter_map (leg_of streams) order)) ≡ at ∷ order
    by_stream None there rest = absurd (past streams at (below at (has-head at order)) there)
    by_stream (Some s) there rest = ap (λ others. at ∷ others) rest

apart-all : (leg : Leg) (legs : List Leg) → AllByRecursion (AreApart leg.stream) (streams_of legs) → AllByRecursion (λ (other : Leg). ¬ (leg.stream ≡ other.stream)) legs
apart-all leg [] apart = tt
apart-all leg (other ∷ legs) apart = (apart.0, apart-all leg legs apart.1)

-- legs of streams that are apart
apart-pairs : (legs : List Leg) → EachPair AreApart (streams_of legs) → EachPair (λ (a b : Leg). ¬ (a.stream ≡ b.stream)) legs
apart-pairs [] apart = tt
apart-pairs (leg ∷ legs) apart = (apart-all leg legs apart.0, apart-pairs legs apart.1)

-- the chain of a round can be walked
chain_by-walkable : (streams : List Stream) (round : Round) → AllByRecursion (λ (s : Stream). HasPackets s.mode) streams → 0 < length round.order
    → IsRound (length streams) (links streams) round → IsChain (chain_by streams round)
chain_by-walkable streams round have some is = record {
  some = rw same_length some;
  packets = legs-all (λ leg. HasPackets leg.mode) streams (λ at s there. all-at (λ (s : Stream). HasPackets s.mode) streams at s have there) round.order;
  distinct = apart-pairs (chain_by streams round).legs (subst (EachPair AreApart) (sym same) (distinct-apart round.order is.order.distinct));
  endless = at_end;
  back_within = rw same_length is.back;
}
  where
    legs : List Leg
    legs = filter_map (leg_of streams) round.order

    same : streams_of legs ≡ round.order
    same = legs-order streams round.order is.order.below

    same_length : length legs ≡ length round.order
    same_length = sym (length-map legs (λ (leg : Leg). leg.stream)) ∙ ap length same

    at_end : (place : ℕ) (leg : Leg) → slice_get legs place ≡ Some leg → size leg ≡ None → (place + 1 ≡ length legs) × (round.back ≡ None)
    at_end place leg there endless =
        let found : slice_get round.order place ≡ Some leg.stream =
        ap (λ order. slice_get order place) (sym same) ∙ slice_get-map (λ (leg : Leg). leg.stream) legs place ∙ ap (option_map (λ (leg : Leg). leg.stream)) there in
        let lasts : AllByRecursion (λ (leg : Leg). size leg ≡ None → link_at (links streams) leg.stream ≡ None) legs =
        legs-all (λ (leg : Leg). size leg ≡ None → link_at (links streams) leg.stream ≡ None) streams (λ at s is_there. endless-last streams at s is_there) round.order in
        let last = all-at (λ (leg : Leg). size leg ≡ None → link_at (links streams) leg.stream ≡ None) legs place leg lasts there endless in
        let ends = is.ends place leg.stream found last in (rw same_length ends.0, ends.1)

-- the starts are positions of streams
rising-all : (n low : ℕ) (xs : List ℕ) → AreRising n low xs → AllByRecursion (λ at. at < n) xs
rising-all n low [] rises = tt
rising-all n low (x ∷ xs) rises = (rises.1, rising-all n (x + 1) xs rises.2)

starts-small : (streams : List Stream) → AllByRecursion (λ at. at < length (links streams)) (starts streams)
starts-small streams = rising-all (length (links streams)) 0 (starts streams) (starts_from-rising (length (links streams)) 0 streams (rw length-map (omega arith)))

-- the round that begins at a start
round-at : (streams : List Stream) (start : ℕ) → start < length (links streams) → IsRound (length streams) (links streams) (round_of (links streams) start)
round-at streams start small =
    subst (λ n. IsRound n (links streams) (round_of (links streams) start)) (length-map streams (effective_next streams))
    (round_of-round (links streams) (links-within streams) start small)

rounds-walkable : (streams : List Stream) → AllByRecursion (λ (s : Stream). HasPackets s.mode) streams → (firsts : List ℕ) → AllByRecursion (λ at. at < length (links streams)) firsts
    → AllByRecursion IsChain (map (λ start. chain_by streams (round_of (links streams) start)) firsts)
rounds-walkable streams have [] small = tt
rounds-walkable streams have (start ∷ firsts) small = (
  chain_by-walkable streams (round_of (links streams) start) have (round_of-some (links streams) start) (round-at streams start small.0),
  rounds-walkable streams have firsts small.1,
)

-- the chains of a profile can be walked
pub chains_of-walkable : (streams : List Stream) → refusal_of streams ≡ None → AllByRecursion IsChain (chains_of streams)
chains_of-walkable streams kept =
    let values = first-none (first_each value_refusal 0 streams) (cross_rules streams ∷ []) kept in
    rounds-walkable streams (values-kept 0 streams values.0) (starts streams) (starts-small streams)

-- the streams of the chains are those to which they come
joined-streams : (streams : List Stream) (firsts : List ℕ) → AllByRecursion (λ at. at < length (links streams)) firsts
    → streams_of (joined (map (λ (chain : Chain). chain.legs) (map (λ start. chain_by streams (round_of (links streams) start)) firsts))) ≡ joined (orders (links streams) firsts)
joined-streams streams [] small = refl
joined-streams streams (start ∷ firsts) small =
    map-append (λ (leg : Leg). leg.stream) (chain_by streams (round_of (links streams) start)).legs
    (joined (map (λ (chain : Chain). chain.legs) (map (λ start. chain_by streams (round_of (links streams) start)) firsts)))
    ∙ ap (λ front. front ++ streams_of (joined (map (λ (chain : Chain). chain.legs) (map (λ start. chain_by streams (round_of (links streams) start)) firsts))))
    (legs-order streams (round_of (links streams) start).order (round-at streams start small.0).order.below)
    ∙ ap (λ rest. (round_of (links streams) start).order ++ rest) (joined-streams streams firsts small.1)

-- where no rule is broken, the third isn't
third-none : {E : Type 0} (a b c : Option E) (rules : List (Option E)) → first (a ∷ b ∷ c ∷ rules) ≡ None → c ≡ None
third-none None None None rules none = refl
third-none (Some e) b c rules none = cc
third-none None (Some e) c rules none = cc
third-none None None (Some e) rules none = cc

cross-kept : (streams : List Stream) → cross_rules streams ≡ None → first_each (shared_refusal (links streams) (starts streams)) 0 streams ≡ None
unfolding cross_rules
cross-kept streams none =
    third-none (first_each (duplicate_refusal (ids streams)) 0 streams) (first_each (lost_refusal (ids streams)) 0 streams)
    (first_each (shared_refusal (links streams) (starts streams)) 0 streams) _ none

shared-none : (position : ℕ) (reach : Reach) → rule_at SharedStream position (is_shared reach) ≡ None → reach ≡ Shared → ⊥
shared-none position reach none is =
    let broken : rule_at SharedStream position true ≡ None = sym (ap (λ r. rule_at SharedStream position (is_shared r)) is) ∙ none in absurd (cc)

-- where no stream is refused as shared, none is shared
unshared : (all : List (Option ℕ)) (firsts : List ℕ) (position : ℕ) (streams : List Stream) → first_each (shared_refusal all firsts) position streams ≡ None
    → (at : ℕ) → at < length streams → reach_at all firsts (position + at) ≡ Shared → ⊥
unshared all firsts position [] none at small shared = absurd (omega arith)
unshared all firsts position (s ∷ streams) none zero small shared =
    let here = first-none (shared_refusal all firsts position s) (first_each (shared_refusal all firsts) (position + 1) streams ∷ []) none in
    let same : position + 0 ≡ position = omega arith in
    shared-none position (reach_at all firsts position) here.0 (ap (λ at. reach_at all firsts at) (sym same) ∙ shared)
unshared all firsts position (s ∷ streams) none (suc at) small shared =
    let here = first-none (shared_refusal all firsts position s) (first_each (shared_refusal all firsts) (position + 1) streams ∷ []) none in
    let rest = first-none (first_each (shared_refusal all firsts) (position + 1) streams) [] here.1 in
    let same : position + suc at ≡ position + 1 + at = omega arith in
    unshared all firsts (position + 1) streams rest.0 at (omega arith) (ap (λ at. reach_at all firsts at) (sym same) ∙ shared)

-- the chains of a profile name distinct streams
pub chains_of-distinct : (streams : List Stream) → refusal_of streams ≡ None → HaveDistinctStreams (chains_of streams)
chains_of-distinct streams kept =
    let others = first-none (first_each value_refusal 0 streams) (cross_rules streams ∷ []) kept in
    let cross = first-none (cross_rules streams) [] others.1 in
    let none : AreUnshared (length (links streams)) (links streams) (starts streams) =
    λ at small shared.
    let same : 0 + at ≡ at = omega arith in
    unshared (links streams) (starts streams) 0 streams (cross-kept streams cross.0) at (rw (← length-map streams (effective_next streams)) small)
    (ap (λ at. reach_at (links streams) (starts streams) at) same ∙ shared) in
    apart-pairs (joined (map (λ (chain : Chain). chain.legs) (chains_of streams)))
    (subst (EachPair AreApart) (sym (joined-streams streams (starts streams) (starts-small streams)))
    (orders-apart (links streams) (links-within streams) (starts streams) (starts-small streams) none))
