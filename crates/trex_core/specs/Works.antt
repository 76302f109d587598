-- The work of a core: its turns, and what they do. Own.
use Rattle.std.specs.Prelude.{◌≡◌, ℕ, ◌+◌, ◌-◌, ◌<◌, ◌≤◌, ◌^◌, List, [], ◌∷◌, length, map}
use Rattle.trex_merge.specs.Frames.{Frame}
use Rattle.trex_merge.specs.Queues.{Queue, refilled, stem}
use Rattle.trex_core.specs.declared.maker.TheConstants.{LONGEST_PACKET}
use Rattle.trex_core.specs.Batches.{batch_of}

-- a core, how many turns it took, the seconds since 1970 from which its packets' times count, and its packets: those that wait and those that
-- are to come
pub record Work : Type 0 where
  pub core : ℕ
  pub turns : ℕ
  pub base : ℕ
  pub queue : Queue

-- how many packets a refill adds
abbrev pub added : Queue → ℕ
added queue = length (batch_of (stem queue)) - length queue.waiting

-- the work after one turn more, which refills its batch
abbrev pub turned : Work → Work
turned work = record { core = work.core; turns = work.turns + 1; base = work.base; queue = refilled (added work.queue) work.queue }

-- a packet that a core makes: no longer than a packet may be, and early enough that its absolute time doesn't overflow
pub record IsMade (frame : Frame) : Type 0 where
  pub bytes : length frame.bytes ≤ LONGEST_PACKET
  pub time : frame.time < 10 ^ 18

-- as many packets wait as fit
abbrev pub IsSettled : Queue → Type 0
IsSettled queue = queue.waiting ≡ batch_of (stem queue)

-- a packet as a list of numbers: its time, its stream, its number, and its bytes
abbrev pub numbers_of : Frame → List ℕ
numbers_of frame = frame.time ∷ frame.stream ∷ frame.number ∷ frame.bytes

-- what a turn leaves as it is: the base, and all packets, those that wait and then those that are to come
abbrev pub stem_numbers : Work → List (List ℕ)
stem_numbers work = (work.base ∷ []) ∷ map numbers_of (stem work.queue)
