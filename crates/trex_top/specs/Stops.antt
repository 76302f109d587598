-- Why a profile wasn't read, or a capture wasn't written. Own.
use Rattle.std.specs.Prelude.{◌≡◌, ℕ, List, Option, Err}
use Rattle.trex_io.specs.Faults.{Rises}
use Rattle.trex_io.specs.Texts.{WrotePart}
use Rattle.trex_top.specs.declared.capturing.Unwritten.{Unwritten}
use Rattle.trex_top.specs.declared.capturing.Unwritten.TheVariants.{OutFault, Memory as NoRoomForPieces}
use Rattle.trex_top.specs.declared.input.ReadingStop.{ReadingStop}
use Rattle.trex_top.specs.declared.input.ReadingStop.TheVariants.{Refused, ReadFault, Memory as NoRoomForText}
use Rattle.trex_top.specs.Rows.{HasVerdict}

-- why the reading of a profile stopped: it is refused, or the count of faults rose
abbrev pub ReadingStops : {K : Type 0} → (K → Option (List ℕ)) → (K → ℕ) → K → K → ReadingStop → Type 0
ReadingStops left faults old new (Refused r) = HasVerdict (left old) (Err r)
ReadingStops left faults old new ReadFault = Rises faults old new
ReadingStops left faults old new NoRoomForText = Unit {0}

-- why a text wasn't written whole: the count of faults rose, and a part of it was written; or nothing was
abbrev pub Unmade : {O : Type 0} → (O → Option (List ℕ)) → (O → ℕ) → List ℕ → O → O → Unwritten → Type 0
Unmade held faults text out out' OutFault = WrotePart held out out' text × Rises faults out out'
Unmade held faults text out out' NoRoomForPieces = out' ≡ out
