-- What the analysis of a capture answers. Own; the grammar of captures is pcap 2.4.
use Rattle.std.specs.Prelude.{◌≡◌, ℕ, List, Option, Some, None, Result, Ok, Err}
use Rattle.trex_io.specs.Faults.{Rises}
use Rattle.trex_io.specs.Seen.{Seen}
use Rattle.trex_io.specs.Texts.{WrotePart}
use Rattle.trex_measure.specs.Measured.{HasFault, OnCapture}
use Rattle.trex_pcap.specs.declared.fault.CaptureFault.{CaptureFault}
use Rattle.trex_report.specs.Texts.{analysis_text}
use Rattle.trex_top.specs.declared.analysis.AnalyzeFault.{AnalyzeFault}
use Rattle.trex_top.specs.declared.analysis.AnalyzeFault.TheVariants.{Read, Bad, Out, Memory}

-- What a fault shows: the cause of a failed read or write, the capture's fault, and what the output got.
abbrev pub AnalysisStops : {S O : Type 0} → (S → Option (List ℕ)) → (S → ℕ) → (O → Option (List ℕ)) → (O → ℕ) → S → S → O → O → AnalyzeFault → Type 0
AnalysisStops left read_faults held write_faults input input' out out' Read = Rises read_faults input input' × (out' ≡ out)
AnalysisStops left read_faults held write_faults input input' out out' (Bad e) = HasFault (left input) e × (out' ≡ out)
AnalysisStops left read_faults held write_faults input input' out out' Out =
    OnCapture (left input) (λ rs. WrotePart held out out' (analysis_text rs)) × Rises write_faults out out'
AnalysisStops left read_faults held write_faults input input' out out' Memory = out' ≡ out

-- The answers for a capture of some records and this fault: without one anything but `Bad`; else that fault, a failed read or want of
-- memory.
abbrev pub AnalysisAnswers : Result (Unit {0}) AnalyzeFault → List Seen → Option CaptureFault → Type 0
AnalysisAnswers (Ok u) rs None = Unit {0}
AnalysisAnswers (Ok u) rs (Some e) = ⊥
AnalysisAnswers (Err Read) rs e = Unit {0}
AnalysisAnswers (Err (Bad d)) rs None = ⊥
AnalysisAnswers (Err (Bad d)) rs (Some e) = d ≡ e
AnalysisAnswers (Err Out) rs None = Unit {0}
AnalysisAnswers (Err Out) rs (Some e) = ⊥
AnalysisAnswers (Err Memory) rs e = Unit {0}
