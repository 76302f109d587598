-- What the measuring of a capture answers. Own; the grammar of captures is pcap 2.4.
use Rattle.std.specs.Prelude.{◌≡◌, ℕ, List, Option, Some, None, Result, Ok, Err}
use Rattle.trex_io.specs.Seen.{Seen}
use Rattle.trex_pcap.specs.declared.fault.CaptureFault.{CaptureFault}
use Rattle.trex_pcap.specs.declared.fault.CaptureFault.TheVariants.{Fault}
use Rattle.trex_pcap.specs.Following.{IsOfCapture}
use Rattle.trex_pcap.specs.Reading.{IsCapture}
use Rattle.trex_stats.specs.Counts.{Counts, StandsFor}
use Rattle.trex_measure.specs.declared.fault.MeasureFault.{MeasureFault}
use Rattle.trex_measure.specs.declared.fault.MeasureFault.TheVariants.{Read, Bad, Memory}

-- The text is a capture without a fault, and then this holds of its records. It claims nothing of a text that isn't told.
abbrev pub OnCapture : Option (List ℕ) → (List Seen → Type 0) → Type 0
OnCapture None P = Unit {0}
OnCapture (Some text) P = (rs : List Seen) × IsCapture text rs None × P rs

-- the text has this fault after some records
abbrev pub HasFault : Option (List ℕ) → CaptureFault → Type 0
HasFault None e = Unit {0}
HasFault (Some text) e = (rs : List Seen) × IsCapture text rs (Some e)

-- this holds of the records of the text and of its fault, where it has one
abbrev pub IfCapture : Option (List ℕ) → (List Seen → Option CaptureFault → Type 0) → Type 0
IfCapture None P = Unit {0}
IfCapture (Some text) P = (rs : List Seen) (fault : Option CaptureFault) → IsCapture text rs fault → P rs fault

-- what a reader's fault is to the measuring: that of the source, or the capture's own
abbrev pub measure_fault : CaptureFault → MeasureFault
measure_fault Fault = Read
measure_fault e = Bad e

-- a fault of the capture that is answered is one, and the text has it
abbrev pub IsSound : Option (List ℕ) → MeasureFault → Type 0
IsSound text Read = Unit {0}
IsSound text (Bad e) = IsOfCapture e × HasFault text e
IsSound text Memory = Unit {0}

-- The answers for a capture of these records and this fault, where what is kept stands for records: what stands for the records,
-- where there is no fault; the fault, where there is one; or a failed read, or out of memory.
abbrev pub AnswersBy : {K : Type 0} → (K → List Seen → Type 0) → Result K MeasureFault → List Seen → Option CaptureFault → Type 0
AnswersBy stands (Ok k) rs None = stands k rs
AnswersBy stands (Ok k) rs (Some e) = ⊥
AnswersBy stands (Err Read) rs e = Unit {0}
AnswersBy stands (Err (Bad d)) rs None = ⊥
AnswersBy stands (Err (Bad d)) rs (Some e) = d ≡ e
AnswersBy stands (Err Memory) rs e = Unit {0}

-- the answers that are counts
abbrev pub AnswersFor : Result Counts MeasureFault → List Seen → Option CaptureFault → Type 0
AnswersFor = AnswersBy StandsFor
