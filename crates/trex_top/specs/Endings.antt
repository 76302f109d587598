-- What follows from how the commands end. Own.
use Rattle.std.specs.Prelude.{◌≡◌, ◌⊎◌, ℕ, List, [], ◌∷◌, Option, Some, None, Result, Ok, Err}
use Rattle.trex_io.specs.Seen.{Seen}
use Rattle.trex_import.specs.Fit.{unfit_of}
use Rattle.trex_json.specs.Verdict.{verdict}
use Rattle.trex_measure.specs.Measured.{HasFault}
use Rattle.trex_pcap.specs.declared.fault.CaptureFault.{CaptureFault}
use Rattle.trex_pcap.specs.declared.unfit.Unfit.{Unfit as WhyUnfit}
use Rattle.trex_pcap.specs.Reading.{IsCapture}
use Rattle.trex_profile.specs.declared.refusal.Refusal.{Refusal}
use Rattle.trex_profile.specs.Stream.{Stream}
use Rattle.trex_rpc.specs.declared.bound.Bound.{Bound}
use Rattle.trex_rpc.specs.Heard.{heard}
use Rattle.trex_words.specs.declared.asked.Asked.{Asked}
use Rattle.trex_words.specs.declared.asked.Asked.TheVariants.{Run, Check, Analyze, Sample, Import, Wire, Session, Help}
use Rattle.trex_words.specs.declared.asked.Usage.{Usage as WordsFault}
use Rattle.trex_top.specs.declared.status.Status.{Status}
use Rattle.trex_top.specs.declared.status.Status.TheVariants.{Done, ReadFault, OutFault, NotesFault}
use Rattle.trex_top.specs.Sides.{Side, GateSide, Kept, Failed, Unentered, Rounds}

-- a status is among these
abbrev pub IsAmong : Status → List Status → Type 0
IsAmong s [] = ⊥
IsAmong s (t ∷ ts) = (s ≡ t) ⊎ IsAmong s ts

-- the text is told, and is a profile
abbrev pub IsProfile : Option (List ℕ) → Type 0
IsProfile None = ⊥
IsProfile (Some text) = (p : List Stream) × (verdict text ≡ Ok p)

-- the text is told, and breaks a rule on profiles
abbrev pub IsRefused : Option (List ℕ) → Type 0
IsRefused None = ⊥
IsRefused (Some text) = (r : Refusal) × (verdict text ≡ Err r)

-- the text is told, and is a capture without a fault
abbrev pub IsGoodCapture : Option (List ℕ) → Type 0
IsGoodCapture None = ⊥
IsGoodCapture (Some text) = (rs : List Seen) × IsCapture text rs None

-- the text is told, and has a fault as a capture
abbrev pub IsBadCapture : Option (List ℕ) → Type 0
IsBadCapture None = ⊥
IsBadCapture (Some text) = (e : CaptureFault) × HasFault (Some text) e

-- the text is told, and is a capture without a fault that makes a profile
abbrev pub IsFitCapture : Option (List ℕ) → Type 0
IsFitCapture None = ⊥
IsFitCapture (Some text) = (rs : List Seen) × IsCapture text rs None × (unfit_of rs ≡ None)

-- the text is told, and is a capture without a fault that makes no profile
abbrev pub IsUnfitCapture : Option (List ℕ) → Type 0
IsUnfitCapture None = ⊥
IsUnfitCapture (Some text) = (rs : List Seen) × (u : WhyUnfit) × IsCapture text rs None × (unfit_of rs ≡ Some u)

-- the text is told, and breaks no bound of sessions
abbrev pub IsUnbroken : Option (List ℕ) → Type 0
IsUnbroken None = ⊥
IsUnbroken (Some text) = (heard text).broken ≡ None

-- the text is told, and breaks a bound of sessions
abbrev pub IsBroken : Option (List ℕ) → Type 0
IsBroken None = ⊥
IsBroken (Some text) = (bound : Bound) × ((heard text).broken ≡ Some bound)

-- the input is what the request is for
abbrev pub Suits : Asked → Option (List ℕ) → Type 0
Suits (Run ask) text = IsProfile text
Suits Check text = IsProfile text
Suits Analyze text = IsGoodCapture text
Suits (Sample ask) text = Unit {0}
Suits Import text = IsFitCapture text
Suits (Wire ask) text = IsGoodCapture text
Suits Session text = IsUnbroken text
Suits Help text = Unit {0}

module _ {S O N : Type 0} where
  -- a status of a fault has its cause
  abbrev pub HasItsCause : Side S → Side O → Side N → Status → Type 0
  HasItsCause input out notes ReadFault = Failed input
  HasItsCause input out notes OutFault = Failed out
  HasItsCause input out notes NotesFault = Failed notes
  HasItsCause input out notes _ = Unit {0}

module _ {O : Type 0} where
  -- but for the statuses that come after the first write, the output is left alone
  abbrev pub Leaves : Side O → Status → Type 0
  Leaves out Done = Unit {0}
  Leaves out OutFault = Unit {0}
  Leaves out NotesFault = Unit {0}
  Leaves out _ = Kept out

  -- the same, but for a session, which writes before it ends
  abbrev pub LeavesOutput : Result Asked WordsFault → Side O → Status → Type 0
  LeavesOutput (Ok Session) out s = Unit {0}
  LeavesOutput _ out s = Leaves out s

module _ {G : Type 0} where
  -- the gates are entered for whole rounds of the cores that are asked for, and for nothing else; nothing is said of a session
  abbrev pub EntersGates : Result Asked WordsFault → GateSide G → Type 0
  EntersGates (Ok (Run ask)) gates = Rounds gates ask.cores
  EntersGates (Ok (Sample ask)) gates = Rounds gates ask.run.cores
  EntersGates (Ok Session) gates = Unit {0}
  EntersGates _ gates = Unentered gates
