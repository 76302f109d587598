-- What bytes in memory tell of the front of the rest of a capture that begins with them. Own; the grammar of captures is pcap 2.4.
use Rattle.std.specs.Prelude.{◌≡◌, ℕ, ◌+◌, ◌^◌, ◌<◌, ◌≤◌, ◌==◌, if◌then◌else◌, List, ◌++◌, length, drop}
use Rattle.trex_pcap.specs.declared.ahead.Ahead.{Ahead}
use Rattle.trex_pcap.specs.declared.ahead.Ahead.TheVariants.{Whole, Faulty, Short}
use Rattle.trex_pcap.specs.declared.fault.CaptureFault.TheVariants.{Torn}
use Rattle.trex_pcap.specs.declared.format.Format.{Format}
use Rattle.trex_pcap.specs.declared.record.Record.{Record}
use Rattle.trex_pcap.specs.Following.{IsOfCapture, seen_by}
use Rattle.trex_pcap.specs.Reading.{ends, stops, holds, front}

-- the record stands whole at the front of the bytes, and so at the front of the bytes and whatever follows them
pub record IsWhole (f : Format) (before : ℕ) (bytes : List ℕ) (r : Record) : Type 0 where
  pub number : r.number ≡ before + 1
  pub few : r.number ≤ 100000000
  pub captured : r.captured ≤ 262144
  pub time : r.time < 2 ^ 63
  pub there : 16 + r.captured ≤ length bytes
  pub holds_it : (more : List ℕ) → front f before (bytes ++ more) ≡ holds (seen_by r (drop 16 bytes)) (drop (16 + r.captured) bytes ++ more)

-- What the bytes tell: a record or a fault at the front of them and whatever follows; or that there are too few, fewer than the longest
-- record takes, so that the capture ends or is torn where none follows.
abbrev pub IsAhead : Format → ℕ → List ℕ → Ahead → Type 0
IsAhead f before bytes (Whole r) = IsWhole f before bytes r
IsAhead f before bytes (Faulty e) = IsOfCapture e × ((more : List ℕ) → front f before (bytes ++ more) ≡ stops e)
IsAhead f before bytes Short =
    (length bytes < 262160) × (front f before bytes ≡ (if length bytes == 0 then ends else stops (Torn (before + 1))))
