-- A step of a run: what was sent is known by its number, since the order of all packets is. Own.
use Rattle.std.specs.Prelude.{ℕ, ◌+◌, Bool, true, false, List, [], ◌∷◌, length, map, replicate, take}
use Rattle.trex_merge.specs.declared.next.Next.{Next}
use Rattle.trex_merge.specs.declared.next.Next.TheVariants.{Packet, Need, End}
use Rattle.trex_merge.specs.Frames.{Frame, key_of}
use Rattle.trex_merge.specs.Machine.{Event, Refill, Emit, MillState, happens, next_in, run}
use Rattle.trex_merge.specs.Order.{ordered}
use Rattle.trex_merge.specs.Queues.{Queue, at_place, popped}

-- the mill with these queues, after so many packets were sent
abbrev pub mill_after : List Frame → List Queue → ℕ → ℕ → MillState
mill_after frames queues sent limit = record { queues = queues; sent = take sent (ordered key_of frames); limit = limit }

-- a round: each core makes as many packets as fit, where `added` tells how many these are
abbrev pub round_from : (Queue → ℕ) → ℕ → List Queue → List Event
round_from added core [] = []
round_from added core (queue ∷ queues) = Refill core (added queue) ∷ round_from added (core + 1) queues

-- a round is made if a core has to be waited for
abbrev pub supplied : (Queue → ℕ) → Next → MillState → MillState
supplied added (Need core) state = run (round_from added 0 state.queues) state
supplied added (Packet at) state = state
supplied added End state = state

-- The packet that comes next is sent, if any, and then a round is made if a core has to be waited for.
abbrev pub stepped : (Queue → ℕ) → MillState → MillState
stepped added state = supplied added (next_in (happens state Emit)) (happens state Emit)

-- So many packets that come next are sent one after another, and then a round is made if a core has to be waited for.
abbrev pub passed : (Queue → ℕ) → ℕ → MillState → MillState
passed added many state = supplied added (next_in (run (replicate many Emit) state)) (run (replicate many Emit) state)

-- a packet comes next
abbrev pub is_packet : Next → Bool
is_packet (Packet at) = true
is_packet (Need core) = false
is_packet End = false

-- 1 if a packet comes next, and else 0
abbrev pub packet_ahead : Next → ℕ
packet_ahead (Packet at) = 1
packet_ahead (Need core) = 0
packet_ahead End = 0

-- how many packets were reached: those that were sent, and the one that comes next, if any
abbrev pub reached : MillState → ℕ
reached state = length state.sent + packet_ahead (next_in state)

-- what is left of the queues after the packet that comes next
abbrev pub queues_after : Next → List Queue → List Queue
queues_after (Packet at) queues = at_place popped at queues
queues_after (Need core) queues = queues
queues_after End queues = queues

-- the works after a round, if a core has to be waited for
abbrev pub works_after : {T : Type 0} → (T → T) → Next → List T → List T
works_after turned (Need core) works = map turned works
works_after turned (Packet at) works = works
works_after turned End works = works

-- the number of rounds after one, if a core has to be waited for
abbrev pub rounds_after : Next → ℕ → ℕ
rounds_after (Need core) rounds = rounds + 1
rounds_after (Packet at) rounds = rounds
rounds_after End rounds = rounds
