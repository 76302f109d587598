-- What a sample writes. Own.
use Rattle.std.specs.Prelude.{◌≡◌, ℕ, List, Option}
use Rattle.trex_io.specs.Faults.{Rises}
use Rattle.trex_io.specs.Texts.{WrotePart}
use Rattle.trex_merge.specs.Frames.{Frame}
use Rattle.trex_report.specs.Texts.{sample_line}
use Rattle.trex_run.specs.declared.counts.Counts.{Counts}
use Rattle.trex_run.specs.Capture.{sequence}
use Rattle.trex_run.specs.Counts.{counts_of}
use Rattle.trex_sample.specs.Sampled.{sampled}
use Rattle.trex_words.specs.declared.asked.RunAsk.{RunAsk}
use Rattle.trex_words.specs.declared.asked.SampleAsk.{SampleAsk}
use Rattle.trex_top.specs.declared.sampling.SampleFault.{SampleFault}
use Rattle.trex_top.specs.declared.sampling.SampleFault.TheVariants.{Out, Memory}

-- the run of a sample: its times count from 1970
abbrev pub run_of : SampleAsk → RunAsk
run_of ask = record ask.run { base = 0 }

-- the packets of a sample: those of the profile that its seed determines
abbrev pub sample_sequence : SampleAsk → List Frame
sample_sequence ask = sequence (sampled ask.seed ask.streams) (run_of ask)

-- what is counted of a sample
unfoldable pub sample_counts : SampleAsk → Counts
sample_counts ask = counts_of (sample_sequence ask)

-- the line of a sample of which this is counted
abbrev pub line_of : SampleAsk → Counts → List ℕ
line_of ask counts = sample_line ask.seed ask.streams counts.packets counts.bytes counts.sum

-- the same with what is counted of it
abbrev pub sample_text : SampleAsk → List ℕ
sample_text ask = line_of ask (sample_counts ask)

-- why the line wasn't written: the count of faults rose, and a part of it was; or there was no memory, and nothing was
abbrev pub Unshown : {O : Type 0} → (O → Option (List ℕ)) → (O → ℕ) → List ℕ → O → O → SampleFault → Type 0
Unshown held faults text out out' Out = WrotePart held out out' text × Rises faults out out'
Unshown held faults text out out' Memory = out' ≡ out
