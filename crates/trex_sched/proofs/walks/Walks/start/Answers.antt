use Rattle.std.proofs.Common.{◌≡◌, ◌==◌, ◌%◌, ◌<◌, ◌^◌, List, ℕ, get_or, length, map, take, sym, ap, ◌∙◌, subst, arith, rules}
use Rattle.std.proofs.lemmas.List.{length-map, length-take-le, take_all}
use Rattle.std.specs.List.{AllByRecursion}
use Rattle.trex_merge.specs.Order.{AreDistinct, IsRising, joined, ordered}
use Rattle.trex_sched.specs.declared.chain.ChainSpec.{ChainSpec}
use Rattle.trex_sched.specs.declared.slot.Slot.{Slot}
use Rattle.trex_sched.specs.Chain.{chain_of, IsChain}
use Rattle.trex_sched.specs.Entries.{key_of}
use Rattle.trex_sched.specs.Heads.{HaveOwnStreams}
use Rattle.trex_sched.specs.Walks.{all_entries}
use Rattle.trex_sched.proofs.Heads.{all_at_place, heads_shuffled}
use Rattle.trex_sched.proofs.Firsts.{begin_apart, BeginsBelow, few_before, first_is, one_more}
use Rattle.trex_sched.proofs.Shares.{all_distinct, each_is, each_names_others, joined_shares, share_of, shares_apart, shares_distinct, shares_rise}
use Rattle.trex_sched.proofs.walks.Walks.start.Goals as goal

-- the chain at a place is one
chain_at : (chains : List ChainSpec) (place : ℕ) (chain : ChainSpec) → place < length chains → chain ≡ get_or chains place chain
    → AllByRecursion IsChain (map chain_of chains) → IsChain (chain_of chain)
chain_at chains place chain within is are = all_at_place (λ chain. IsChain (chain_of chain)) chains place chain within is (each_is chains are)

pub start-walk-requires-clause-chain : goal.start-walk-requires-clause-chain
start-walk-requires-clause-chain c = chain_at c.args.chains.now c.loop-chain.chain-index c.chain-item.result (omega arith) c.chain-item.is c.requires.chains

pub index-requires : goal.index-requires
index-requires c =
    let some = (chain_at c.args.chains.now c.loop-chain.chain-index c.chain-item.result c.loop-chain-test.true c.chain-item.is c.requires.chains).some in
    let whole = c.chain-item.result.legs.ok in
    omega arith

pub add-requires-clause-few : goal.add-requires-clause-few
add-requires-clause-few c =
    let fits : c.index.result.now.stream < 2 ^ 32 = search rules in
    let some = (chain_at c.args.chains.now c.loop-chain.chain-index c.chain-item.result c.loop-chain-test.true c.chain-item.is c.requires.chains).some in
    let low = subst (λ s. s < 2 ^ 32) (first_is c.chain-item.result.legs.items c.index.result.now some c.index.ensures) fits in
    let walks = ap length c.loop-chain.invariant.3 in
    let whole = c.loop-chain.walks.ok in
    let taken = length-take-le c.loop-chain.chain-index c.args.chains.now (omega arith) in
    let each = length-map (take c.loop-chain.chain-index c.args.chains.now) (share_of c.args.core c.args.cores c.args.duration) in
    let few = few_before c.loop-chain.chain-index c.args.chains.now c.loop-chain-test.true
    (begin_apart c.args.chains.now c.requires.chains (each_names_others (map chain_of c.args.chains.now) c.requires.streams))
    (one_more BeginsBelow c.loop-chain.chain-index c.args.chains.now c.chain-item.result c.loop-chain-test.true c.chain-item.is c.loop-chain.invariant.2 low) in
    omega arith

-- there is a walk for each chain
walks_are : (c : goal.After-take_least-first) → c.loop-chain.walks.items ≡ map (share_of c.args.core c.args.cores c.args.duration) c.args.chains.now
walks_are c =
    c.loop-chain.invariant.3
    ∙ ap (map (share_of c.args.core c.args.cores c.args.duration)) (take_all c.loop-chain.chain-index c.args.chains.now c.loop-chain-test.false)

distinct : (c : goal.After-take_least-first) → AreDistinct key_of (all_entries (map chain_of c.args.chains.now) c.args.duration)
distinct c =
    all_distinct (map chain_of c.args.chains.now) c.args.duration c.requires.chains c.requires.streams
    (λ chain is. c.entries_rise.ensures.streams chain c.args.duration is) (λ chain is. c.entries_rise.ensures.distinct chain c.args.duration is)

pub invariant_of-result : goal.invariant_of-result
invariant_of-result c =
    let core = c.args.core in
    let cores = c.args.cores in
    let d = c.args.duration in
    let chains = c.args.chains.now in
    record {
      rising = subst (AllByRecursion (IsRising key_of)) (sym (walks_are c))
          (shares_rise core cores d chains c.requires.chains (λ chain is. c.entries_rise.ensures.shares chain core cores d is));
      distinct = subst (λ (l : List (List Slot)). AreDistinct key_of (joined l)) (sym (walks_are c)) (shares_distinct core cores d chains (distinct c));
      apart = subst HaveOwnStreams (sym (walks_are c))
          (shares_apart core cores d chains c.requires.chains (each_names_others (map chain_of chains) c.requires.streams)
          (λ chain is. c.entries_rise.ensures.streams chain d is));
      known = heads_shuffled c.loop-chain.walks.items _ _ c.take_least-first.ensures.heads c.loop-chain.invariant.0;
      least = c.take_least-first.ensures.least;
      heap = c.take_least-first.ensures.heap;
    }

pub returns : goal.returns
returns c =
    ap (λ (l : List (List Slot)). ordered key_of (joined l)) (walks_are c)
    ∙ ap (ordered key_of) (joined_shares c.args.core c.args.cores c.args.duration c.args.chains.now)
    ∙ sym (c.order_is_unique.ensures.parts (λ slot. slot.number % c.args.cores == c.args.core) (all_entries (map chain_of c.args.chains.now) c.args.duration) (distinct c))
