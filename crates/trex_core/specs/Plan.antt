-- What a run sends: the packets of a profile, with their bytes. Own.
use Rattle.std.specs.Prelude.{ℕ, ◌+◌, ◌*◌, ◌^◌, ◌<◌, List, [], length, map, slice_get}
use Rattle.std.specs.Option.{option_map_or}
use Rattle.trex_merge.specs.Frames.{Frame}
use Rattle.trex_merge.specs.Order.{ordered}
use Rattle.trex_profile.specs.Chains.{chains_of}
use Rattle.trex_profile.specs.Packets.{packet_of}
use Rattle.trex_profile.specs.Stream.{Stream}
use Rattle.trex_sched.specs.declared.slot.Slot.{Slot}
use Rattle.trex_sched.specs.Entries.{key_of}
use Rattle.trex_sched.specs.Walks.{all_entries}

-- all packets of a profile that stand below a duration, by time, then by stream, then by number
unfoldable pub schedule : List Stream → ℕ → List Slot
schedule p duration = ordered key_of (all_entries (chains_of p) duration)

-- the bytes of a packet: those of its stream at its number, its place in its run and its absolute time, where the base is in seconds since 1970
unfoldable pub packet_bytes : List Stream → ℕ → Slot → List ℕ
packet_bytes p base slot =
    option_map_or (λ s. packet_of s slot.number slot.in_run (base * 10 ^ 9 + slot.time)) (slice_get p slot.stream) []

-- the packet with its bytes
abbrev pub frame_at : List Stream → ℕ → Slot → Frame
frame_at p base slot =
    record { time = slot.time; stream = slot.stream; number = slot.number; bytes = packet_bytes p base slot }

-- a plan: a profile, how long it runs in nanoseconds, and its base
pub record PlanOf : Type 0 where
  pub profile : List Stream
  pub duration : ℕ
  pub base : ℕ

-- the packets of a plan, in order
abbrev pub frames_of_plan : PlanOf → List Frame
frames_of_plan plan = map (frame_at plan.profile plan.base) (schedule plan.profile plan.duration)

-- a packet of a profile's stream, early enough that no number in it overflows
pub record IsSlotOf (p : List Stream) (slot : Slot) : Type 0 where
  pub stream : slot.stream < length p
  pub time : slot.time < 10 ^ 18
  pub number : slot.number < 10 ^ 18
  pub place : slot.in_run < 10 ^ 18
