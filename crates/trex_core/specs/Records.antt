-- How a batch is kept. Own.
use Rattle.std.specs.Prelude.{◌≡◌, ℕ, ◌+◌, List, [], ◌∷◌, ◌++◌, length, map, take, drop, sum_by}
use Rattle.trex_core.specs.Batches.{IsWithin}
use Rattle.trex_core.specs.declared.batch.TheConstants.{RECORD_HEADER}
use Rattle.trex_core.specs.declared.waiting.Waiting.{Waiting}
use Rattle.trex_core.specs.Texts.{records_text}
use Rattle.trex_merge.specs.declared.key.Key.{Key}
use Rattle.trex_merge.specs.Frames.{Frame, key_of}

-- what contracts see of a batch: the seconds since 1970 from which its packets' times count, and the packets that wait
pub record BatchView : Type 0 where
  pub base : ℕ
  pub waiting : List Frame

-- a batch with one packet more
abbrev pub with_frame : Frame → BatchView → BatchView
with_frame frame batch = record { base = batch.base; waiting = batch.waiting ++ frame ∷ [] }

-- what a batch knows of a packet beside its record
abbrev pub waiting_of : Frame → Waiting
waiting_of frame = record { key = key_of frame; length = length frame.bytes }

-- how many bytes the records of such packets have
abbrev pub text_length : List Waiting → ℕ
text_length ws = sum_by (λ w. RECORD_HEADER + w.length) ws

-- the packet with a key
abbrev pub frame_with : Key → List ℕ → Frame
frame_with key bytes = record { time = key.time; stream = key.stream; number = key.number; bytes = bytes }

-- the packets of which these are known, where each one's bytes stand behind the header of its record
abbrev pub frames_of : List Waiting → List ℕ → List Frame
frames_of [] text = []
frames_of (w ∷ ws) text = frame_with w.key (take w.length (drop RECORD_HEADER text)) ∷ frames_of ws (drop (RECORD_HEADER + w.length) text)

-- what is known of the packets and the text of their records belong together, and a batch holds no more than it may
pub record AreBatch (base : ℕ) (ws : List Waiting) (text : List ℕ) : Type 0 where
  pub known : ws ≡ map waiting_of (frames_of ws text)
  pub records : text ≡ records_text base (frames_of ws text)
  pub within : IsWithin (frames_of ws text)
