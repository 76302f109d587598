-- What a run writes: the packets of a profile, in order, as a capture, and the report on them.
use Rattle.std.specs.Prelude.{ℕ, ◌+◌, ◌==◌, List, [], ◌∷◌, length, map, filter, sum_by, take}
use Rattle.trex_core.specs.Plan.{schedule, frame_at}
use Rattle.trex_core.specs.Texts.{packet_at}
use Rattle.trex_merge.specs.Frames.{Frame}
use Rattle.trex_profile.specs.Stream.{Stream}
use Rattle.trex_pcap.specs.Writing.{capture_of}
use Rattle.trex_words.specs.declared.asked.RunAsk.{RunAsk}
use Rattle.trex_report.specs.declared.report.Tally.{Tally}
use Rattle.trex_report.specs.Texts.{report_text}

-- The packets of a run: those that stand below the duration, by time, then by stream, then by number; of these the first, as many as
-- the limit allows. Own.
unfoldable pub sequence : List Stream → RunAsk → List Frame
sequence p ask = map (frame_at p ask.base) (take ask.limit (schedule p ask.duration))

-- packets as a capture (pcap 2.4)
abbrev pub capture_text : ℕ → List Frame → List ℕ
capture_text base frames = capture_of (map (packet_at base) frames)

-- the capture of a run
abbrev pub capture : List Stream → RunAsk → List ℕ
capture p ask = capture_text ask.base (sequence p ask)

-- the packets of the stream at a position
abbrev pub sent_of : ℕ → List Frame → List Frame
sent_of position frames = filter (λ frame. frame.stream == position) frames

-- how many packets of a stream were sent, and of how many bytes
abbrev pub tally_at : ℕ → Stream → List Frame → Tally
tally_at position s frames = record {
  id = s.id;
  packets = length (sent_of position frames);
  bytes = sum_by (λ frame. length frame.bytes) (sent_of position frames);
}

-- the same for each stream from a position on
abbrev pub tallies_from : ℕ → List Stream → List Frame → List Tally
tallies_from position [] frames = []
tallies_from position (s ∷ p) frames = tally_at position s frames ∷ tallies_from (position + 1) p frames

-- the same for each stream of a profile
unfoldable pub tallies : List Stream → List Frame → List Tally
tallies p frames = tallies_from 0 p frames

-- the report on a run. Own.
abbrev pub report : List Stream → RunAsk → List ℕ
report p ask = report_text (tallies p (sequence p ask))
