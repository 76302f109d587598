-- The mill: cores make packets whenever they do, and the least packet that waits is sent. Own.
use Rattle.std.specs.Prelude.{◌≡◌, ℕ, ◌-◌, ◌%◌, ◌==◌, Some, ◌≤◌, ◌⊎◌, length, List, [], ◌∷◌, ◌++◌, map, take}
use Rattle.std.specs.List.{AllByRecursion, filter, slice_get}
use Rattle.trex_merge.specs.declared.next.Next.{Next}
use Rattle.trex_merge.specs.declared.next.Next.TheVariants.{Packet, Need, End}
use Rattle.trex_merge.specs.Frames.{Frame, key_of, share, shares}
use Rattle.trex_merge.specs.Order.{AreDistinct, IsRising, joined, ordered}
use Rattle.trex_merge.specs.Queues.{Queue, at_place, next_of, popped, refilled, stem, waiting_at}

-- what each core has still to send, what was sent, and how many packets may be sent in all
pub record MillState : Type 0 where
  pub queues : List Queue
  pub sent : List Frame
  pub limit : ℕ

-- A core makes at most so many packets, or the next packet is sent.
pub data Event : Type 0 where
  Refill : (core most : ℕ) → Event
  Emit : Event

-- what comes next
abbrev pub next_in : MillState → Next
next_in state = next_of (state.limit - length state.sent) state.queues

-- the packets that one core sent
abbrev pub sent_by : ℕ → ℕ → List Frame → List Frame
sent_by core cores sent = filter (λ frame. frame.number % cores == core) sent

-- Where a packet comes next, it goes to the end of what was sent.
abbrev pub emitted : Next → MillState → MillState
emitted (Packet at) state = record {
  queues = at_place popped at state.queues;
  sent = state.sent ++ take 1 (waiting_at at state.queues);
  limit = state.limit;
}
emitted (Need core) state = state
emitted End state = state

-- the state after an event
abbrev pub happens : MillState → Event → MillState
happens state (Refill core most) = record {
  queues = at_place (refilled most) core state.queues;
  sent = state.sent;
  limit = state.limit;
}
happens state Emit = emitted (next_in state) state

-- the state after some events
abbrev pub run : List Event → MillState → MillState
run [] state = state
run (event ∷ events) state = run events (happens state event)

-- In the beginning nothing was sent, nothing waits, and each core's share is to come.
abbrev pub start : ℕ → ℕ → List Frame → MillState
start cores limit frames = record {
  queues = map (λ share. record { waiting = []; coming = share }) (shares cores frames);
  sent = [];
  limit = limit;
}

-- What was sent, and then all that is left in order, is the whole in order.
pub record IsMill (frames : List Frame) (state : MillState) : Type 0 where
  pub whole : state.sent ++ ordered key_of (joined (map stem state.queues)) ≡ ordered key_of frames
  pub distinct : AreDistinct key_of (joined (map stem state.queues))
  pub rising : AllByRecursion (IsRising key_of) (map stem state.queues)
  pub within : length state.sent ≤ state.limit

-- What a core sent, and then what it has still to send, is its share of the packets.
abbrev pub HaveShares : ℕ → List Frame → MillState → Type 0
HaveShares cores frames state =
    (core : ℕ) (queue : Queue) → slice_get state.queues core ≡ Some queue → sent_by core cores state.sent ++ stem queue ≡ share core cores frames

-- As many packets were sent as may be, or nothing is left.
abbrev pub IsEnded : MillState → Type 0
IsEnded state = (state.limit ≤ length state.sent) ⊎ AllByRecursion (λ queue. stem queue ≡ []) state.queues

-- a list is the beginning of another
abbrev pub IsPrefixOf : {X : Type 0} → List X → List X → Type 0
IsPrefixOf {X = X} xs ys = (rest : List X) × (xs ++ rest ≡ ys)
