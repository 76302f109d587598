-- The heads of some lists of packets: for each list that has a packet, what its first is ordered by and the list's place (own).
use Rattle.std.specs.Prelude.{◌≡◌, ℕ, ◌<◌, ◌≤◌, ◌==◌, Option, None, Some, List, [], ◌∷◌, count_by}
use Rattle.std.specs.List.{AllByRecursion, slice_get}
use Rattle.std.specs.BinaryHeap.{IsHeap, IsUpperBound}
use Rattle.std.specs.Ordering.{nat_cmp, ordering_then}
use Rattle.std.specs.declared.cmp.Ordering.{Ordering}
use Rattle.std.specs.declared.cmp.Reverse.{Reverse}
use Rattle.trex_sched.specs.declared.head.Head.{Head}
use Rattle.trex_sched.specs.declared.slot.Slot.{Slot}
use Rattle.trex_sched.specs.Entries.{key_of}
use Rattle.trex_merge.specs.Order.{AreDistinct, EachPair, IsRising, joined}

-- the head of a list at a place that begins with a slot
abbrev pub head_of : Slot → ℕ → Head
head_of slot place = record { time = slot.time; stream = slot.stream; place = place }

-- a head is that of the list at its place
pub record IsHeadIn (lists : List (List Slot)) (head : Head) : Type 0 where
  pub slot : Slot
  pub rest : List Slot
  pub there : slice_get lists head.place ≡ Some (slot ∷ rest)
  pub is : head ≡ head_of slot head.place

-- how many heads stand for a place
abbrev pub heads_at : ℕ → List (Reverse Head) → ℕ
heads_at place heads = count_by (λ head. head.0.place == place) heads

-- each head is one of the lists', no place has two, and each list that has a packet has its head
pub record AreHeads (lists : List (List Slot)) (heads : List (Reverse Head)) : Type 0 where
  pub each : AllByRecursion (λ head. IsHeadIn lists head.0) heads
  pub once : (place : ℕ) → heads_at place heads ≤ 1
  pub all : (place : ℕ) (slot : Slot) (rest : List Slot) → slice_get lists place ≡ Some (slot ∷ rest) → 0 < heads_at place heads

-- by time, then by stream, then by place
abbrev pub compare_heads : Head → Head → Ordering
compare_heads a b = ordering_then (nat_cmp a.time b.time) (ordering_then (nat_cmp a.stream b.stream) (nat_cmp a.place b.place))

-- the least is the first
abbrev pub least_first : Reverse Head → Reverse Head → Ordering
least_first a b = compare_heads b.0 a.0

-- the first head, where there is one, and the others
abbrev pub with_first : Option Head → List (Reverse Head) → List (Reverse Head)
with_first None others = others
with_first (Some first) others = record { 0 = first } ∷ others

-- no other head is less than the first, and where there is no first, there is no other
abbrev pub IsFirst : Option Head → List (Reverse Head) → Type 0
IsFirst None others = others ≡ []
IsFirst (Some first) others = IsUpperBound least_first (record { 0 = first }) others

-- packets of two lists at different places have different streams
abbrev pub HaveOwnStreams : List (List Slot) → Type 0
HaveOwnStreams lists = EachPair (λ xs ys. AllByRecursion (λ x. AllByRecursion (λ y. ¬ (x.stream ≡ y.stream)) ys) xs) lists

-- Lists that rise, with no packet twice and no stream in two, whose heads are a least one and the others, which stand in a heap with the least
-- of them at its top.
pub record AreInOrder (lists : List (List Slot)) (first : Option Head) (others : List (Reverse Head)) : Type 0 where
  pub rising : AllByRecursion (IsRising key_of) lists
  pub distinct : AreDistinct key_of (joined lists)
  pub apart : HaveOwnStreams lists
  pub known : AreHeads lists (with_first first others)
  pub least : IsFirst first others
  pub heap : IsHeap least_first others
