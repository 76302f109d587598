-- What the import of a capture answers. Own; the grammar of captures is pcap 2.4.
use Rattle.std.specs.Prelude.{◌≡◌, ℕ, List, Option, Some, None, Result, Ok, Err}
use Rattle.std.specs.Io.KnownBytes.{IsAtEnd}
use Rattle.trex_io.specs.Faults.{Rises}
use Rattle.trex_io.specs.Seen.{Seen}
use Rattle.trex_io.specs.Texts.{WrotePart}
use Rattle.trex_measure.specs.Measured.{HasFault, OnCapture}
use Rattle.trex_pcap.specs.declared.fault.CaptureFault.{CaptureFault}
use Rattle.trex_import.specs.declared.fault.ImportFault.{ImportFault}
use Rattle.trex_import.specs.declared.fault.ImportFault.TheVariants.{Read, Bad, Unfit, Out, Memory}
use Rattle.trex_import.specs.Fit.{unfit_of}
use Rattle.trex_import.specs.Imported.{imported}

-- What a fault shows: the cause of a failed read or write, the capture's fault or what makes it unfit, and what the output got.
abbrev pub ImportStops : {S O : Type 0} → (S → Option (List ℕ)) → (S → ℕ) → (O → Option (List ℕ)) → (O → ℕ) → S → S → O → O → ImportFault → Type 0
ImportStops left read_faults held write_faults input input' out out' Read = Rises read_faults input input' × (out' ≡ out)
ImportStops left read_faults held write_faults input input' out out' (Bad e) = HasFault (left input) e × (out' ≡ out)
ImportStops left read_faults held write_faults input input' out out' (Unfit u) =
    OnCapture (left input) (λ rs. unfit_of rs ≡ Some u) × IsAtEnd (left input') × (out' ≡ out)
ImportStops left read_faults held write_faults input input' out out' Out =
    OnCapture (left input) (λ rs. WrotePart held out out' (imported rs)) × IsAtEnd (left input') × Rises write_faults out out'
ImportStops left read_faults held write_faults input input' out out' Memory = out' ≡ out

-- The answers for a capture of some records and this fault: without one, and where the records are fit, anything but `Bad` and `Unfit`;
-- what makes them unfit; else that fault; or a failed read or want of memory.
abbrev pub ImportAnswers : Result (Unit {0}) ImportFault → List Seen → Option CaptureFault → Type 0
ImportAnswers (Ok u) rs None = unfit_of rs ≡ None
ImportAnswers (Ok u) rs (Some e) = ⊥
ImportAnswers (Err Read) rs e = Unit {0}
ImportAnswers (Err (Bad d)) rs None = ⊥
ImportAnswers (Err (Bad d)) rs (Some e) = d ≡ e
ImportAnswers (Err (Unfit u)) rs None = unfit_of rs ≡ Some u
ImportAnswers (Err (Unfit u)) rs (Some e) = ⊥
ImportAnswers (Err Out) rs None = unfit_of rs ≡ None
ImportAnswers (Err Out) rs (Some e) = ⊥
ImportAnswers (Err Memory) rs e = Unit {0}
