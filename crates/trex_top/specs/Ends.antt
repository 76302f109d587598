-- How the program ends: the table of each command, and what a command isn't given is left alone. Own.
pub mod Run
pub mod Check
pub mod Measured
pub mod Analyze
pub mod Sample
pub mod Import
pub mod Wire
pub mod Session
pub mod Help
use Rattle.std.specs.Prelude.{◌≡◌, Result, Ok, Err}
use Rattle.trex_report.specs.declared.line.Line.TheVariants.{Usage as UsageLine}
use Rattle.trex_words.specs.declared.asked.Asked.{Asked}
use Rattle.trex_words.specs.declared.asked.Asked.TheVariants as ask
use Rattle.trex_words.specs.declared.asked.Usage.{Usage as WordsFault}
use Rattle.trex_top.specs.declared.status.Status.{Status}
use Rattle.trex_top.specs.declared.status.Status.TheVariants.{Usage}
use Rattle.trex_top.specs.Ends.Run.{RunEnds}
use Rattle.trex_top.specs.Ends.Check.{CheckEnds}
use Rattle.trex_top.specs.Ends.Analyze.{AnalyzeEnds}
use Rattle.trex_top.specs.Ends.Sample.{SampleEnds}
use Rattle.trex_top.specs.Ends.Import.{ImportEnds}
use Rattle.trex_top.specs.Ends.Wire.{WireEnds}
use Rattle.trex_top.specs.Ends.Session.{SessionEnds}
use Rattle.trex_top.specs.Ends.Help.{HelpEnds}
use Rattle.trex_top.specs.Rows.{Says}
use Rattle.trex_top.specs.Sides.{Side, GateSide, Kept, Unentered}

module _ {S O N G : Type 0} where
  -- what holds at a status, where the words ask for this
  abbrev pub Ends : Result Asked WordsFault → Side S → Side O → Side N → GateSide G → Status → Type 0
  Ends (Err u) input out notes gates s = (s ≡ Usage) × Says out notes (UsageLine u) × Kept input × Unentered gates
  Ends (Ok (ask.Run a)) input out notes gates s = RunEnds a input out notes gates s
  Ends (Ok ask.Check) input out notes gates s = CheckEnds input out notes s × Unentered gates
  Ends (Ok ask.Analyze) input out notes gates s = AnalyzeEnds input out notes s × Unentered gates
  Ends (Ok (ask.Sample a)) input out notes gates s = SampleEnds a out notes gates s × Kept input
  Ends (Ok ask.Import) input out notes gates s = ImportEnds input out notes s × Unentered gates
  Ends (Ok (ask.Wire a)) input out notes gates s = WireEnds a input out notes s × Unentered gates
  Ends (Ok ask.Session) input out notes gates s = SessionEnds input out notes s
  Ends (Ok ask.Help) input out notes gates s = HelpEnds out notes s × Kept input × Unentered gates
