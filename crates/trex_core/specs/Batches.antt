-- What waits in a core's batch. Own.
use Rattle.std.specs.Prelude.{ℕ, zero, suc, ◌+◌, ◌-◌, ◌≤◌, ◌&&◌, nat_lt, nat_le, Bool, if◌then◌else◌, List, [], ◌∷◌, length, sum_by}
use Rattle.trex_core.specs.declared.batch.TheConstants.{BATCH_PACKETS, BATCH_BYTES}
use Rattle.trex_merge.specs.Frames.{Frame}

-- the bytes of all packets
abbrev pub bytes_of : List Frame → ℕ
bytes_of frames = sum_by (λ frame. length frame.bytes) frames

-- a batch may hold these packets
pub record IsWithin (frames : List Frame) : Type 0 where
  pub packets : length frames ≤ BATCH_PACKETS
  pub bytes : bytes_of frames ≤ BATCH_BYTES

-- beside these packets there is room for one more of so many bytes
abbrev pub has_room_for : List Frame → ℕ → Bool
has_room_for frames count = nat_lt (length frames) BATCH_PACKETS && nat_le (bytes_of frames + count) BATCH_BYTES

-- the longest beginning that has at most so many packets and at most so many bytes
abbrev pub beginning : ℕ → ℕ → List Frame → List Frame
beginning packets room [] = []
beginning zero room (frame ∷ frames) = []
beginning (suc packets) room (frame ∷ frames) =
    if nat_le (length frame.bytes) room then frame ∷ beginning packets (room - length frame.bytes) frames else []

-- what a batch holds after a refill: of the packets that a core has still to send, as many as fit
unfoldable pub batch_of : List Frame → List Frame
batch_of frames = beginning BATCH_PACKETS BATCH_BYTES frames
