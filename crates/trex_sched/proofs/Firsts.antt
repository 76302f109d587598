-- Chains begin with streams of their own, so there are at most as many as streams.
use Rattle.std.proofs.Common.{◌≡◌, ℕ, zero, suc, ◌<◌, ◌≤◌, ◌^◌, false, true, List, [], ◌∷◌, length, map, take, get_or, refl, ap, subst, arith, inl, eqb}
use Rattle.std.proofs.lemmas.Bool.Decides.{nat_tests}
use Rattle.std.proofs.lemmas.List.{length-map, length-take-le}
use Rattle.std.proofs.lemmas.Map.Steps.{length-le_from_distinct_below}
use Rattle.std.specs.List.{AllByRecursion, IsDistinct, list_any}
use Rattle.trex_merge.specs.Order.{EachPair}
use Rattle.trex_sched.specs.declared.chain.ChainSpec.{ChainSpec}
use Rattle.trex_sched.specs.declared.chain.Leg.{Leg}
use Rattle.trex_sched.specs.Chain.{chain_of, IsChain}
use Rattle.trex_sched.proofs.Shares.{Name, NameOthers}

-- the stream with which a chain begins
abbrev pub first_stream : List Leg → ℕ
first_stream [] = 0
first_stream (leg ∷ legs) = leg.stream

abbrev pub stream_of : ChainSpec → ℕ
stream_of chain = first_stream chain.legs.items

-- it has 32 bits
abbrev pub BeginsBelow : ChainSpec → Type 0
BeginsBelow chain = stream_of chain < 2 ^ 32

-- a chain names it
first_named : (legs : List Leg) → 0 < length legs → Name legs (first_stream legs)
first_named [] some = absurd (omega arith)
first_named (leg ∷ legs) some = inl refl

pub first_is : (legs : List Leg) (leg : Leg) → 0 < length legs → leg ≡ get_or legs 0 leg → leg.stream ≡ first_stream legs
first_is [] leg some is = absurd (omega arith)
first_is (a ∷ legs) leg some is = ap (λ (l : Leg). l.stream) is

-- two chains begin with different streams
abbrev pub BeginApart : ChainSpec → ChainSpec → Type 0
BeginApart a b = ¬ (stream_of a ≡ stream_of b)

-- chains that name no stream together begin with different ones
pub begin_apart : (chains : List ChainSpec) → AllByRecursion IsChain (map chain_of chains) → EachPair NameOthers (map chain_of chains) → EachPair BeginApart chains
begin_apart [] are apart = tt
begin_apart (chain ∷ chains) are apart = (others chains are.1 apart.0, begin_apart chains are.1 apart.1)
  where
    others : (laters : List ChainSpec) → AllByRecursion IsChain (map chain_of laters) → AllByRecursion (NameOthers (chain_of chain)) (map chain_of laters)
        → AllByRecursion (BeginApart chain) laters
    others [] all differ = tt
    others (later ∷ laters) all differ = (
      differ.0 (stream_of chain) (stream_of later) (first_named chain.legs.items are.0.some) (first_named later.legs.items all.0.some),
      others laters all.1 differ.1,
    )

-- ---- the first chains of a list

all_first : {X : Type 0} (P : X → Type 0) (n : ℕ) (xs : List X) → AllByRecursion P xs → AllByRecursion P (take n xs)
all_first P zero xs all = tt
all_first P (suc n) [] all = tt
all_first P (suc n) (x ∷ xs) all = (all.0, all_first P n xs all.1)

pairs_first : {X : Type 0} (R : X → X → Type 0) (n : ℕ) (xs : List X) → EachPair R xs → EachPair R (take n xs)
pairs_first R zero xs pairs = tt
pairs_first R (suc n) [] pairs = tt
pairs_first R (suc n) (x ∷ xs) pairs = (all_first (R x) n xs pairs.0, pairs_first R n xs pairs.1)

-- what holds of the first ones and of the next holds of one more
pub one_more : {X : Type 0} (P : X → Type 0) (n : ℕ) (xs : List X) (x : X) → n < length xs → x ≡ get_or xs n x → AllByRecursion P (take n xs) → P x
    → AllByRecursion P (take (suc n) xs)
one_more P n [] x within is all next = absurd (omega arith)
one_more P zero (a ∷ xs) x within is all next = (subst P is next, tt)
one_more P (suc n) (a ∷ xs) x within is all next = (all.0, one_more P n xs x (omega arith) is all.1 next)

-- ---- how many there are

distinct_firsts : (chains : List ChainSpec) → EachPair BeginApart chains → IsDistinct eqb (map stream_of chains)
unfolding IsDistinct
distinct_firsts [] apart = tt
distinct_firsts (chain ∷ chains) apart = (others chains apart.0, distinct_firsts chains apart.1)
  where
    others : (laters : List ChainSpec) → AllByRecursion (BeginApart chain) laters → AllByRecursion (λ y. eqb (stream_of chain) y ≡ false) (map stream_of laters)
    others [] differ = tt
    others (later ∷ laters) differ = (let other = differ.0 in grind (arith, nat_tests), others laters differ.1)

firsts_below : (chains : List ChainSpec) (q : ℕ) → AllByRecursion BeginsBelow chains → list_any (eqb q) (map stream_of chains) ≡ true → q < 2 ^ 32
firsts_below [] q below has = absurd cc
firsts_below (chain ∷ chains) q below has =
    elim (eqb q (stream_of chain)) as (λ t. eqb q (stream_of chain) ≡ t → q < 2 ^ 32) [
      | true ↦ λ here. let same : q ≡ stream_of chain = grind (arith, nat_tests) in let low = below.0 in omega arith
      | false ↦ λ other. firsts_below chains q below.1 cc
    ] refl

few : (chains : List ChainSpec) → EachPair BeginApart chains → AllByRecursion BeginsBelow chains → length chains ≤ 2 ^ 32
few chains apart below =
    let most = length-le_from_distinct_below (map stream_of chains) (2 ^ 32) (distinct_firsts chains apart) (λ q has. firsts_below chains q below has) in
    let whole = length-map chains stream_of in
    omega arith

-- where the first chains of a list and one more begin with streams of 32 bits, the first ones are fewer than 2^32
pub few_before : (n : ℕ) (chains : List ChainSpec) → n < length chains → EachPair BeginApart chains → AllByRecursion BeginsBelow (take (suc n) chains) → n < 2 ^ 32
few_before n chains within apart below =
    let many = length-take-le (suc n) chains (omega arith) in
    let most = few (take (suc n) chains) (pairs_first BeginApart (suc n) chains apart) below in
    omega arith
