-- The packets of a profile's chains are those of its streams, and early enough.
use Rattle.std.proofs.Common.{ℕ, ◌<◌, ◌≤◌, ◌^◌, Bool, true, false, cond, List, [], ◌∷◌, length, map, inl, inr, arith}
use Rattle.std.specs.List.{AllByRecursion, filter}
use Rattle.trex_merge.specs.Order.{Has, ordered}
use Rattle.trex_merge.proofs.OrderLemmas.{all_at, all_from, same-ordered}
use Rattle.trex_merge.proofs.ListLemmas.{all-append}
use Rattle.trex_profile.specs.Stream.{Stream}
use Rattle.trex_sched.specs.declared.chain.Leg.{Leg}
use Rattle.trex_sched.specs.declared.slot.Slot.{Slot}
use Rattle.trex_sched.specs.Chain.{Chain, IsChain}
use Rattle.trex_sched.specs.Entries.{entries, key_of}
use Rattle.trex_sched.specs.Walks.{all_entries}
use Rattle.trex_core.specs.Plan.{IsSlotOf}

-- what the legs name is below a bound of what they name
named_below : (n : ℕ) (legs : List Leg) (stream : ℕ) → AllByRecursion (λ leg. leg.stream < n) legs → Has (map (λ leg. leg.stream) legs) stream → stream < n
named_below n [] stream below has = absurd has
named_below n (leg ∷ legs) stream below (inl same) = let first = below.0 in omega arith
named_below n (leg ∷ legs) stream below (inr later) = named_below n legs stream below.1 later

-- four facts of each packet
each_is : (p : List Stream) (legs : List Leg) (d : ℕ) (slots : List Slot) → d ≤ 10 ^ 18 → AllByRecursion (λ leg. leg.stream < length p) legs
    → AllByRecursion (λ slot. slot.time < d) slots → AllByRecursion (λ slot. slot.number ≤ slot.time) slots → AllByRecursion (λ slot. slot.in_run ≤ slot.number) slots
    → AllByRecursion (λ slot. Has (map (λ leg. leg.stream) legs) slot.stream) slots → AllByRecursion (IsSlotOf p) slots
each_is p legs d [] short within below numbers places named = tt
each_is p legs d (slot ∷ slots) short within below numbers places named =
    let time = below.0 in
    let number = numbers.0 in
    let place = places.0 in (
      record { stream = named_below (length p) legs slot.stream within named.0; time = omega arith; number = omega arith; place = omega arith },
      each_is p legs d slots short within below.1 numbers.1 places.1 named.1,
    )

-- what the chains send
pub all_slots : (p : List Stream) (d : ℕ) (chains : List Chain) → d ≤ 10 ^ 18 → AllByRecursion IsChain chains
    → AllByRecursion (λ chain. AllByRecursion (λ leg. leg.stream < length p) chain.legs) chains
    → ((chain : Chain) → AllByRecursion (λ slot. slot.time < d) (entries chain d))
    → ((chain : Chain) → IsChain chain → AllByRecursion (λ slot. slot.number ≤ slot.time) (entries chain d))
    → ((chain : Chain) → IsChain chain → AllByRecursion (λ slot. slot.in_run ≤ slot.number) (entries chain d))
    → ((chain : Chain) → IsChain chain → AllByRecursion (λ slot. Has (map (λ leg. leg.stream) chain.legs) slot.stream) (entries chain d))
    → AllByRecursion (IsSlotOf p) (all_entries chains d)
all_slots p d [] short are within below numbers places named = tt
all_slots p d (chain ∷ chains) short are within below numbers places named =
    all-append (IsSlotOf p) (entries chain d) (all_entries chains d)
    (each_is p chain.legs d (entries chain d) short within.0 (below chain) (numbers chain are.0) (places chain are.0) (named chain are.0))
    (all_slots p d chains short are.1 within.1 below numbers places named)

-- what holds of all values holds of those in order
pub all-ordered : (P : Slot → Type 0) (slots : List Slot) → AllByRecursion P slots → AllByRecursion P (ordered key_of slots)
all-ordered P slots all = all_from P (ordered key_of slots) (λ x has. all_at P slots x all ((same-ordered key_of slots x).0 has))

-- and of those that a test keeps
pub all-filter : {X : Type 0} (P : X → Type 0) (test : X → Bool) (xs : List X) → AllByRecursion P xs → AllByRecursion P (filter test xs)
all-filter P test [] all = tt
all-filter P test (x ∷ xs) all =
    let rest = all-filter P test xs all.1 in
    elim (test x) as (λ t. AllByRecursion P (cond t (x ∷ filter test xs) (filter test xs))) [ true ↦ (all.0, rest) | false ↦ rest ]

-- the times of what the chains send
pub all_below : (d : ℕ) (chains : List Chain) → ((chain : Chain) → AllByRecursion (λ slot. slot.time < d) (entries chain d))
    → AllByRecursion (λ slot. slot.time < d) (all_entries chains d)
all_below d [] below = tt
all_below d (chain ∷ chains) below =
    all-append (λ (slot : Slot). slot.time < d) (entries chain d) (all_entries chains d) (below chain) (all_below d chains below)
