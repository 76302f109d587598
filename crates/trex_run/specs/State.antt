-- A run as its contracts see it, and what its steps do. Own.
use Rattle.std.specs.Prelude.{◌≡◌, ℕ, ◌+◌, ◌≤◌, ◌<◌, ◌^◌, Bool, false, List, ◌++◌, Option, Some, length, take, drop, replicate, slice_get}
use Rattle.trex_core.specs.declared.maker.TheConstants.{LONGEST_PACKET}
use Rattle.trex_core.specs.Plan.{PlanOf, frames_of_plan}
use Rattle.trex_core.specs.Texts.{records_text}
use Rattle.trex_core.specs.Works.{added}
use Rattle.trex_merge.specs.declared.head.Head.{Head}
use Rattle.trex_merge.specs.Frames.{Frame, frame_of, sequence}
use Rattle.trex_merge.specs.Machine.{Emit, IsEnded, MillState, happens, next_in, run}
use Rattle.trex_run.specs.Pieces.{WrittenAndPending}
use Rattle.trex_run.specs.Rounds.{IsEnoughRounds, TellRounds}
use Rattle.trex_run.specs.Step.{is_packet, passed, reached, rounds_after, stepped}

-- a run: its plan, its mill, and how many rounds were made
pub record RunState : Type 0 where
  pub plan : PlanOf
  pub state : MillState
  pub rounds : ℕ

-- on how many cores it runs
abbrev pub cores_of : RunState → ℕ
cores_of run = length run.state.queues

-- all packets that the run sends
abbrev pub all_of : RunState → List Frame
all_of run = sequence run.state.limit (frames_of_plan run.plan)

-- the packets that were reached
abbrev pub packets_reached : RunState → List Frame
packets_reached run = take (reached run.state) (all_of run)

-- a packet is no longer than the longest
abbrev pub IsShort : Frame → Type 0
IsShort frame = length frame.bytes ≤ LONGEST_PACKET

-- a packet's time counts from the schedule's zero, in nanoseconds, and lies below the longest duration
abbrev pub IsEarly : Frame → Type 0
IsEarly frame = frame.time < 10 ^ 18

-- The packet of the sequence that follows what was sent.
pub record IsCurrent (run : RunState) (head : Head) : Type 0 where
  pub packet : slice_get (all_of run) (length run.state.sent) ≡ Some (frame_of head)
  pub short : IsShort (frame_of head)
  pub early : IsEarly (frame_of head)

-- What any number of steps leave as it is, and what the gates were told in them: each round that was made, once for each core.
pub record AreSteps {G : Type 0} (entries : G → Option (List (ℕ × ℕ))) (old new : RunState) (gates gates' : List G) : Type 0 where
  pub plan : new.plan ≡ old.plan
  pub limit : new.state.limit ≡ old.state.limit
  pub cores : cores_of new ≡ cores_of old
  pub told : TellRounds entries (cores_of old) old.rounds new.rounds gates gates'

-- A run is at its end: all its packets were reached, and the rounds were enough for them.
pub record IsThrough (old new : RunState) : Type 0 where
  pub all : reached new.state ≡ length (all_of old)
  pub enough : IsEnoughRounds (cores_of old) new.rounds (all_of old)

-- One step, which answers whether it found a packet. The packet that came next is sent, if any, and then one round is made if a core has to
-- be waited for, and none else. Where no packet is found, the mill has ended, and what was sent is the whole.
pub record IsStep {G : Type 0} (entries : G → Option (List (ℕ × ℕ))) (old new : RunState) (gates gates' : List G) (found : Bool) : Type 0 where
  pub steps : AreSteps entries old new gates gates'
  pub state : new.state ≡ stepped added old.state
  pub rounds : new.rounds ≡ rounds_after (next_in (happens old.state Emit)) old.rounds
  pub sent : length new.state.sent ≡ reached old.state
  pub more : found ≡ is_packet (next_in new.state)
  pub ended : found ≡ false → IsEnded new.state
  pub whole : found ≡ false → new.state.sent ≡ all_of old
  pub through : found ≡ false → IsThrough old new

-- of what a run sends the next so many packets
abbrev pub ahead : ℕ → RunState → List Frame
ahead many run = take many (drop (length run.state.sent) (all_of run))

-- Some packets were sent one after another, as many as there are emissions, and then one round is made if a core has to be waited for, and
-- none else. The answer is whether a packet comes next; where none does, what was sent is the whole.
pub record IsPass {G : Type 0} (entries : G → Option (List (ℕ × ℕ))) (old new : RunState) (gates gates' : List G) (many : ℕ) (found : Bool) : Type 0 where
  pub steps : AreSteps entries old new gates gates'
  pub some : 0 < many
  pub state : new.state ≡ passed added many old.state
  pub rounds : new.rounds ≡ rounds_after (next_in (run (replicate many Emit) old.state)) old.rounds
  pub sent : new.state.sent ≡ old.state.sent ++ ahead many old
  pub longer : length new.state.sent ≡ length old.state.sent + many
  pub within : length new.state.sent ≤ length (all_of old)
  pub more : found ≡ is_packet (next_in new.state)
  pub whole : found ≡ false → new.state.sent ≡ all_of old
  pub through : found ≡ false → IsThrough old new

-- Packets were sent, and their records gathered behind a piece.
pub record IsPassed {G K : Type 0} (entries : G → Option (List (ℕ × ℕ))) (held : K → Option (List ℕ)) (old new : RunState) (gates gates' : List G)
    (out out' : K) (piece piece' : List ℕ) (found : Bool) : Type 0 where
  pub many : ℕ
  pub pass : IsPass entries old new gates gates' many found
  pub gathers : WrittenAndPending held out out' piece' (piece ++ records_text old.plan.base (ahead many old))
