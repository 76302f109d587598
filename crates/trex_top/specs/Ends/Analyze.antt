-- How an analysis ends: with the lines of the capture's flows and of its records. Own.
use Rattle.trex_report.specs.Texts.{analysis_text}
use Rattle.trex_top.specs.declared.status.Status.{Status}
use Rattle.trex_top.specs.Ends.Measured.{MeasuredEnds}
use Rattle.trex_top.specs.Sides.{Side}

module _ {S O N : Type 0} where
  abbrev pub AnalyzeEnds : Side S → Side O → Side N → Status → Type 0
  AnalyzeEnds input out notes s = MeasuredEnds analysis_text input out notes s
