-- What the cores have still to send, and which packet comes next. Own.
use Rattle.std.specs.Prelude.{◌≡◌, ℕ, zero, suc, ◌+◌, ◌&&◌, not, if◌then◌else◌, Bool, true, false, Option, None, Some, List, [], ◌∷◌, ◌++◌, map, take, drop}
use Rattle.std.specs.List.{AllByRecursion, slice_get}
use Rattle.trex_merge.specs.declared.next.Next.{Next}
use Rattle.trex_merge.specs.declared.next.Next.TheVariants.{Packet, Need, End}
use Rattle.trex_merge.specs.declared.place.Place.{Place}
use Rattle.trex_merge.specs.Frames.{Frame, key_of}
use Rattle.trex_merge.specs.Heads.{least_from}
use Rattle.trex_merge.specs.Order.{BeginsNotBefore}

-- what a core has still to send: the packets that wait, and then those that are to come
pub record Queue : Type 0 where
  pub waiting : List Frame
  pub coming : List Frame

-- all of them
abbrev pub stem : Queue → List Frame
stem queue = queue.waiting ++ queue.coming

-- the first waiting packet is taken away
abbrev pub popped : Queue → Queue
popped queue = record { waiting = drop 1 queue.waiting; coming = queue.coming }

-- the first packets to come, so many or all that there are, go to the end of the waiting ones
abbrev pub refilled : ℕ → Queue → Queue
refilled most queue = record { waiting = queue.waiting ++ take most queue.coming; coming = drop most queue.coming }

-- a list has no packet
abbrev pub is_none_left : List Frame → Bool
is_none_left [] = true
is_none_left (frame ∷ rest) = false

-- nothing waits and nothing is to come
abbrev pub is_finished : Queue → Bool
is_finished queue = is_none_left queue.waiting && is_none_left queue.coming

-- nothing waits and something is to come
abbrev pub is_needy : Queue → Bool
is_needy queue = is_none_left queue.waiting && not (is_none_left queue.coming)

-- the value at a place is changed by a function
abbrev pub at_place : {X : Type 0} → (X → X) → ℕ → List X → List X
at_place change at [] = []
at_place change zero (x ∷ rest) = change x ∷ rest
at_place change (suc at) (x ∷ rest) = x ∷ at_place change at rest

-- what waits at each core
abbrev pub all_waiting : List Queue → List (List Frame)
all_waiting queues = map (λ queue. queue.waiting) queues

-- what waits at a core
abbrev pub waiting_at : ℕ → List Queue → List Frame
waiting_at at [] = []
waiting_at zero (queue ∷ queues) = queue.waiting
waiting_at (suc at) (queue ∷ queues) = waiting_at at queues

-- the first core at which nothing waits and something is to come, where the first queue is that of a core
abbrev pub needy_from : ℕ → List Queue → Option ℕ
needy_from core [] = None
needy_from core (queue ∷ queues) = if is_needy queue then Some core else needy_from (core + 1) queues

-- A core that has to be waited for goes before the least packet.
abbrev pub next_among : Option ℕ → Option Place → Next
next_among (Some core) best = Need core
next_among None (Some place) = Packet place.feed
next_among None None = End

-- what comes next, where so many packets may still be sent
abbrev pub next_of : ℕ → List Queue → Next
next_of zero queues = End
next_of (suc more) queues = next_among (needy_from 0 queues) (least_from key_of 0 (all_waiting queues))

-- At a place stands the first waiting packet, no packet that waits comes before it, and no core has to be waited for.
pub record IsLeastAt (at : ℕ) (queues : List Queue) : Type 0 where
  pub frame : Frame
  pub rest : List Frame
  pub there : slice_get (all_waiting queues) at ≡ Some (frame ∷ rest)
  pub least : AllByRecursion (BeginsNotBefore key_of frame) (all_waiting queues)
  pub served : AllByRecursion (λ queue. is_needy queue ≡ false) queues

-- A core has to be waited for, and none before it.
pub record IsNeedyFirst (core : ℕ) (queues : List Queue) : Type 0 where
  pub queue : Queue
  pub there : slice_get queues core ≡ Some queue
  pub needy : is_needy queue ≡ true
  pub served : AllByRecursion (λ queue. is_needy queue ≡ false) (take core queues)
