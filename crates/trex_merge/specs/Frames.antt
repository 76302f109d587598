-- Packets with their bytes, and what each core has of them. Own.
use Rattle.std.specs.Prelude.{ℕ, ◌%◌, ◌==◌, List, map, take}
use Rattle.std.specs.List.{filter, range_with_len}
use Rattle.trex_merge.specs.declared.head.Head.{Head}
use Rattle.trex_merge.specs.declared.key.Key.{Key}
use Rattle.trex_merge.specs.Order.{ordered}

-- a packet: what it is ordered by, and its bytes
pub record Frame : Type 0 where
  pub time : ℕ
  pub stream : ℕ
  pub number : ℕ
  pub bytes : List ℕ

-- what packets are ordered by
abbrev pub key_of : Frame → Key
key_of frame = record { time = frame.time; stream = frame.stream; number = frame.number }

-- a head as a packet
abbrev pub frame_of : Head → Frame
frame_of head = record { time = head.time; stream = head.stream; number = head.number; bytes = head.bytes.now }

-- the first packets in order, as many as the limit allows
abbrev pub sequence : ℕ → List Frame → List Frame
sequence limit frames = take limit (ordered key_of frames)

-- the packets of one core, in order: those whose number leaves its number as the remainder
abbrev pub share : ℕ → ℕ → List Frame → List Frame
share core cores frames = filter (λ frame. frame.number % cores == core) (ordered key_of frames)

-- the packets of each core
abbrev pub shares : ℕ → List Frame → List (List Frame)
shares cores frames = map (λ core. share core cores frames) (range_with_len 0 cores)
