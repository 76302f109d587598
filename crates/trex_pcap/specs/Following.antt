-- What a reader's answers say of the capture that its source has left. Own.
use Rattle.std.specs.Prelude.{◌≡◌, ℕ, ◌+◌, true, false, List, [], take, drop, Option, Some, None, Result, Ok, Err}
use Rattle.trex_io.specs.Seen.{Seen}
use Rattle.trex_pcap.specs.declared.fault.CaptureFault.{CaptureFault}
use Rattle.trex_pcap.specs.declared.fault.CaptureFault.TheVariants.{Fault}
use Rattle.trex_pcap.specs.declared.format.Format.{Format}
use Rattle.trex_pcap.specs.declared.record.Record.{Record}
use Rattle.trex_pcap.specs.Place.{Place}
use Rattle.trex_pcap.specs.Reading.{begin, front, ends, stops, holds, head_fault, time_in, captured_in, original_in}

-- a fault of the capture itself, and not of the source
abbrev pub IsOfCapture : CaptureFault → Type 0
IsOfCapture Fault = ⊥
IsOfCapture _ = Unit {0}

-- a record that was read, with its captured bytes at the front of a buffer
abbrev pub seen_by : Record → List ℕ → Seen
seen_by r buffer = record { time = r.time; bytes = take r.captured buffer; original = r.original }

-- The answer of `start` is how the capture begins, unless the source failed.
abbrev pub Begins : Option (List ℕ) → Option (List ℕ) → Result Place CaptureFault → Type 0
Begins None new result = Unit {0}
Begins (Some bytes) new (Ok p) = (begin bytes ≡ Ok p.format) × (new ≡ Some (drop 24 bytes))
Begins (Some bytes) new (Err e) = IsOfCapture e → begin bytes ≡ Err e

-- The answer of `next` is what stood at the front of the rest, unless the source failed.
abbrev pub Follows : Format → ℕ → Option (List ℕ) → Option (List ℕ) → Result (Option Record) CaptureFault → List ℕ → Type 0
Follows f before None new result buffer = Unit {0}
Follows f before (Some left) new (Ok (Some r)) buffer =
    (rest : List ℕ) × (front f before left ≡ holds (seen_by r buffer) rest) × (new ≡ Some rest)
Follows f before (Some left) new (Ok None) buffer = (front f before left ≡ ends) × (new ≡ Some [])
Follows f before (Some left) new (Err e) buffer = IsOfCapture e → front f before left ≡ stops e

-- where a reader stands after an answer: after a record it goes on, and after the end or a fault it is done
abbrev pub GoesOn : Place → Place → Result (Option Record) CaptureFault → Type 0
GoesOn old new (Ok (Some r)) = new ≡ record { format = old.format; records = old.records + 1; live = true }
GoesOn old new (Ok None) = new ≡ record old { live = false }
GoesOn old new (Err e) = new ≡ record old { live = false }

-- what a record's header says, before its bytes are read
pub record IsHead (f : Format) (n : ℕ) (header : List ℕ) (r : Record) : Type 0 where
  pub number : r.number ≡ n
  pub time : r.time ≡ time_in f header
  pub captured : r.captured ≡ captured_in f header
  pub original : r.original ≡ original_in f header
  pub faultless : head_fault f n header ≡ None

-- The answer to a record's header: the record, or the header's fault.
abbrev pub ReadsHead : Format → ℕ → List ℕ → Result Record CaptureFault → Type 0
ReadsHead f number header (Ok r) = IsHead f number header r
ReadsHead f number header (Err e) = head_fault f number header ≡ Some e
