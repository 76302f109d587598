-- What a core sends of many chains.
use Rattle.std.proofs.Common.{◌≡◌, ℕ, ◌==◌, ◌%◌, ◌⊎◌, inl, inr, Bool, List, [], ◌∷◌, ◌++◌, map, refl, sym, ap, ◌∙◌, subst}
use Rattle.std.proofs.lemmas.List.Elements.{filter-append}
use Rattle.std.specs.List.{AllByRecursion, filter}
use Rattle.trex_merge.specs.Order.{AreApart, AreDistinct, EachPair, Has, IsRising, joined}
use Rattle.trex_merge.proofs.OrderLemmas.{all-filter, all_at, all_from, pairs-filter}
use Rattle.trex_merge.proofs.ListLemmas.{all-append, pairs_across, pairs-append_right}
use Rattle.trex_sched.specs.declared.chain.ChainSpec.{ChainSpec}
use Rattle.trex_sched.specs.declared.chain.Leg.{Leg}
use Rattle.trex_sched.specs.declared.slot.Slot.{Slot}
use Rattle.trex_sched.specs.Chain.{Chain, chain_of, IsChain}
use Rattle.trex_sched.specs.Entries.{entries, key_of, share}
use Rattle.trex_sched.specs.Heads.{HaveOwnStreams}
use Rattle.trex_sched.specs.Walks.{all_entries, HaveDistinctStreams}
use Rattle.trex_sched.proofs.Pairs.{all_more, pairs_append}

-- ---- no packet is there twice

-- a value that a list gives by a function is given by one of its elements
given_by : {X Y : Type 0} (f : X → Y) (xs : List X) (y : Y) → Has (map f xs) y → (x : X) × (Has xs x) × (y ≡ f x)
given_by f [] y has = absurd has
given_by f (a ∷ rest) y (inl here) = (a, inl refl, here)
given_by f (a ∷ rest) y (inr later) = let one = given_by f rest y later in (one.0, inr one.1, one.2)

-- the legs of some chains
abbrev pub legs_of : List Chain → List Leg
legs_of chains = joined (map (λ chain. chain.legs) chains)

-- legs name a stream
abbrev pub Name : List Leg → ℕ → Type 0
Name legs stream = Has (map (λ leg. leg.stream) legs) stream

-- legs of two lists, one after the other, name what one of them names
named_append : (xs ys : List Leg) (s : ℕ) → Name xs s ⊎ Name ys s → Name (xs ++ ys) s
named_append [] ys s (inl none) = absurd none
named_append [] ys s (inr there) = there
named_append (a ∷ xs) ys s (inl (inl here)) = inl here
named_append (a ∷ xs) ys s (inl (inr later)) = inr (named_append xs ys s (inl later))
named_append (a ∷ xs) ys s (inr there) = inr (named_append xs ys s (inr there))

-- the packets of some chains are those of streams that their legs name
pub all_streams : (chains : List Chain) (d : ℕ) → AllByRecursion IsChain chains
    → ((chain : Chain) → IsChain chain → AllByRecursion (λ slot. Name chain.legs slot.stream) (entries chain d))
    → AllByRecursion (λ slot. Name (legs_of chains) slot.stream) (all_entries chains d)
all_streams [] d are named = tt
all_streams (chain ∷ chains) d are named =
    let more = λ (xs ys : List Leg) (s : ℕ). named_append xs ys s in
    all-append (λ slot. Name (legs_of (chain ∷ chains)) slot.stream) (entries chain d) (all_entries chains d)
    (all_more (λ slot. Name chain.legs slot.stream) (λ slot. Name (legs_of (chain ∷ chains)) slot.stream) (entries chain d)
    (λ slot name. more chain.legs (legs_of chains) slot.stream (inl name)) (named chain are.0))
    (all_more (λ slot. Name (legs_of chains) slot.stream) (λ slot. Name (legs_of (chain ∷ chains)) slot.stream) (all_entries chains d)
    (λ slot name. more chain.legs (legs_of chains) slot.stream (inr name)) (all_streams chains d are.1 named))

-- where legs name distinct streams, those before and those after a place name no stream together
pub apart_streams : (xs ys : List Leg) (s t : ℕ) → EachPair (λ a b. ¬ (a.stream ≡ b.stream)) (xs ++ ys) → Name xs s → Name ys t → ¬ (s ≡ t)
apart_streams xs ys s t distinct in_xs in_ys same =
    let a = given_by (λ (leg : Leg). leg.stream) xs s in_xs in
    let b = given_by (λ (leg : Leg). leg.stream) ys t in_ys in
    let across = pairs_across (λ a b. ¬ (a.stream ≡ b.stream)) xs ys b.0 distinct b.1 in
    all_at (λ leg. ¬ (leg.stream ≡ b.0.stream)) xs a.0 across a.1 (sym a.2 ∙ same ∙ b.2)

-- the packets of chains whose legs name distinct streams are distinct
pub all_distinct : (chains : List Chain) (d : ℕ) → AllByRecursion IsChain chains → HaveDistinctStreams chains
    → ((chain : Chain) → IsChain chain → AllByRecursion (λ slot. Name chain.legs slot.stream) (entries chain d))
    → ((chain : Chain) → IsChain chain → AreDistinct key_of (entries chain d)) → AreDistinct key_of (all_entries chains d)
all_distinct [] d are streams named each = tt
all_distinct (chain ∷ chains) d are streams named each =
    let mine = named chain are.0 in
    let others = all_streams chains d are.1 named in
    pairs_append (AreApart key_of) (entries chain d) (all_entries chains d) (each chain are.0)
    (all_distinct chains d are.1 (pairs-append_right (λ a b. ¬ (a.stream ≡ b.stream)) chain.legs (legs_of chains) streams) named each)
    (all_from (λ x. AllByRecursion (AreApart key_of x) (all_entries chains d)) (entries chain d) (λ x in_mine.
    all_from (AreApart key_of x) (all_entries chains d) (λ y in_others same.
    apart_streams chain.legs (legs_of chains) x.stream y.stream streams
    (all_at (λ slot. Name chain.legs slot.stream) (entries chain d) x mine in_mine)
    (all_at (λ slot. Name (legs_of chains) slot.stream) (all_entries chains d) y others in_others) same.0)))

-- no stream is named by both of two chains
abbrev pub NameOthers : Chain → Chain → Type 0
NameOthers a b = (s t : ℕ) → Name a.legs s → Name b.legs t → ¬ (s ≡ t)

-- what one of some chains names, their legs name
named_by_one : (chains : List Chain) → AllByRecursion (λ chain. (s : ℕ) → Name chain.legs s → Name (legs_of chains) s) chains
named_by_one [] = tt
named_by_one (chain ∷ chains) = (
  λ s name. named_append chain.legs (legs_of chains) s (inl name),
  all_more (λ one. (s : ℕ) → Name one.legs s → Name (legs_of chains) s) (λ one. (s : ℕ) → Name one.legs s → Name (legs_of (chain ∷ chains)) s) chains
      (λ one leads s name. named_append chain.legs (legs_of chains) s (inr (leads s name))) (named_by_one chains),
)

-- no two of chains whose legs name distinct streams name one together
pub each_names_others : (chains : List Chain) → HaveDistinctStreams chains → EachPair NameOthers chains
each_names_others [] streams = tt
each_names_others (chain ∷ chains) streams = (
  all_more (λ later. (s : ℕ) → Name later.legs s → Name (legs_of chains) s) (NameOthers chain) chains
      (λ later leads s t mine its. apart_streams chain.legs (legs_of chains) s t streams mine (leads t its)) (named_by_one chains),
  each_names_others chains (pairs-append_right (λ a b. ¬ (a.stream ≡ b.stream)) chain.legs (legs_of chains) streams),
)

-- ---- a core's part

-- a core's part of a chain as it is held in memory
abbrev pub share_of : ℕ → ℕ → ℕ → ChainSpec → List Slot
share_of core cores d chain = share core cores (entries (chain_of chain) d)

-- a part of all lists is all parts of the lists
filter-joined : {X : Type 0} (test : X → Bool) (lists : List (List X)) → joined (map (filter test) lists) ≡ filter test (joined lists)
filter-joined test [] = refl
filter-joined {X = X} test (xs ∷ lists) = ap (λ (l : List X). filter test xs ++ l) (filter-joined test lists) ∙ sym (filter-append test xs (joined lists))

-- the core's packets of the chains, one after another
pub joined_shares : (core cores d : ℕ) (chains : List ChainSpec)
    → joined (map (share_of core cores d) chains) ≡ share core cores (all_entries (map chain_of chains) d)
joined_shares core cores d chains =
    ap joined (one_by_one chains) ∙ filter-joined (λ slot. slot.number % cores == core) (map (λ chain. entries chain d) (map chain_of chains))
  where
    one_by_one : (chains : List ChainSpec) → map (share_of core cores d) chains ≡ map (share core cores) (map (λ chain. entries chain d) (map chain_of chains))
    one_by_one [] = refl
    one_by_one (chain ∷ chains) = ap (λ (l : List (List Slot)). share_of core cores d chain ∷ l) (one_by_one chains)

-- each chain's part rises
pub shares_rise : (core cores d : ℕ) (chains : List ChainSpec) → AllByRecursion IsChain (map chain_of chains)
    → ((chain : Chain) → IsChain chain → IsRising key_of (share core cores (entries chain d)))
    → AllByRecursion (IsRising key_of) (map (share_of core cores d) chains)
shares_rise core cores d [] are each = tt
shares_rise core cores d (chain ∷ chains) are each = (each (chain_of chain) are.0, shares_rise core cores d chains are.1 each)

-- the packets of a core are distinct as all are
pub shares_distinct : (core cores d : ℕ) (chains : List ChainSpec) → AreDistinct key_of (all_entries (map chain_of chains) d)
    → AreDistinct key_of (joined (map (share_of core cores d) chains))
shares_distinct core cores d chains distinct =
    subst (AreDistinct key_of) (sym (joined_shares core cores d chains))
    (pairs-filter (AreApart key_of) (λ slot. slot.number % cores == core) (all_entries (map chain_of chains) d) distinct)

-- a core's packets of different chains have different streams
pub shares_apart : (core cores d : ℕ) (chains : List ChainSpec) → AllByRecursion IsChain (map chain_of chains) → EachPair NameOthers (map chain_of chains)
    → ((chain : Chain) → IsChain chain → AllByRecursion (λ slot. Name chain.legs slot.stream) (entries chain d))
    → HaveOwnStreams (map (share_of core cores d) chains)
shares_apart core cores d [] are apart named = tt
shares_apart core cores d (chain ∷ chains) are apart named =
    (others chains are.1 apart.0, shares_apart core cores d chains are.1 apart.1 named)
  where
    part_named : (one : ChainSpec) → IsChain (chain_of one) → AllByRecursion (λ slot. Name one.legs.items slot.stream) (share_of core cores d one)
    part_named one is =
        all-filter (λ slot. Name one.legs.items slot.stream) (λ slot. slot.number % cores == core) (entries (chain_of one) d) (named (chain_of one) is)

    others : (laters : List ChainSpec) → AllByRecursion IsChain (map chain_of laters) → AllByRecursion (NameOthers (chain_of chain)) (map chain_of laters)
        → AllByRecursion (λ ys. AllByRecursion (λ x. AllByRecursion (λ y. ¬ (x.stream ≡ y.stream)) ys) (share_of core cores d chain)) (map (share_of core cores d) laters)
    others [] all differ = tt
    others (later ∷ laters) all differ = (
      all_more (λ x. Name chain.legs.items x.stream) (λ x. AllByRecursion (λ y. ¬ (x.stream ≡ y.stream)) (share_of core cores d later)) (share_of core cores d chain)
          (λ x mine. all_more (λ y. Name later.legs.items y.stream) (λ y. ¬ (x.stream ≡ y.stream)) (share_of core cores d later)
          (λ y its. differ.0 x.stream y.stream mine its) (part_named later all.0))
          (part_named chain are.0),
      others laters all.1 differ.1,
    )

-- each chain as it is held in memory is one
pub each_is : (chains : List ChainSpec) → AllByRecursion IsChain (map chain_of chains) → AllByRecursion (λ chain. IsChain (chain_of chain)) chains
each_is [] are = tt
each_is (chain ∷ chains) are = (are.0, each_is chains are.1)
