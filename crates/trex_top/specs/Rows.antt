-- The rows that the tables of several commands share. Own.
use Rattle.std.specs.Prelude.{◌≡◌, ℕ, List, Option, Some, None, Result, Err}
use Rattle.trex_json.specs.Verdict.{verdict}
use Rattle.trex_measure.specs.Measured.{HasFault}
use Rattle.trex_pcap.specs.declared.fault.CaptureFault.{CaptureFault}
use Rattle.trex_profile.specs.declared.refusal.Refusal.{Refusal}
use Rattle.trex_profile.specs.Stream.{Stream}
use Rattle.trex_report.specs.declared.line.Line.{Line}
use Rattle.trex_report.specs.declared.line.Line.TheVariants.{Refused, BadCapture, ReadFault, WriteFault, OutOfMemory}
use Rattle.trex_top.specs.Sides.{Side, Kept, Failed, given, GotPart, GotLine}

-- the verdict on a text, where the text is told
abbrev pub HasVerdict : Option (List ℕ) → Result (List Stream) Refusal → Type 0
HasVerdict None v = Unit {0}
HasVerdict (Some text) v = verdict text ≡ v

module _ {O N : Type 0} where
  -- the output is left alone, and the notes get a line
  abbrev pub Says : Side O → Side N → Line → Type 0
  Says out notes line = Kept out × GotLine notes line

  -- the output failed, and got a part of the text
  abbrev pub CannotWrite : Side O → Side N → List ℕ → Type 0
  CannotWrite out notes text = Failed out × GotPart out text × GotLine notes WriteFault

  -- there was no memory, before anything was written
  abbrev pub NoMemory : Side O → Side N → Type 0
  NoMemory out notes = Says out notes OutOfMemory

module _ {S O N : Type 0} where
  -- the profile breaks a rule, and the notes say which it breaks first
  abbrev pub BreaksRule : Side S → Side O → Side N → Type 0
  BreaksRule input out notes = (r : Refusal) × HasVerdict (given input) (Err r) × Says out notes (Refused r)

  -- the capture has a fault, and the notes say which
  abbrev pub BreaksFormat : Side S → Side O → Side N → Type 0
  BreaksFormat input out notes = (e : CaptureFault) × HasFault (given input) e × Says out notes (BadCapture e)

  -- the input failed before anything was written
  abbrev pub CannotRead : Side S → Side O → Side N → Type 0
  CannotRead input out notes = Failed input × Says out notes ReadFault
