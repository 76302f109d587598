-- How the measuring of a capture ends, where each list of records has its text: what holds at each status. Own; the grammar of captures is
-- pcap 2.4.
use Rattle.std.specs.Prelude.{ℕ, List}
use Rattle.trex_io.specs.Seen.{Seen}
use Rattle.trex_measure.specs.Measured.{OnCapture}
use Rattle.trex_report.specs.declared.line.Line.TheVariants.{WriteFault}
use Rattle.trex_top.specs.declared.status.Status.{Status}
use Rattle.trex_top.specs.declared.status.Status.TheVariants.{Done, ReadFault, BadCapture, OutFault, Memory}
use Rattle.trex_top.specs.Rows.{BreaksFormat, CannotRead, NoMemory}
use Rattle.trex_top.specs.Sides.{Side, Kept, Failed, given, AtEnd, Got, GotPart, GotLine}

module _ {S O N : Type 0} where
  abbrev pub MeasuredEnds : (List Seen → List ℕ) → Side S → Side O → Side N → Status → Type 0
  -- the whole text of the capture's records
  MeasuredEnds text input out notes Done = OnCapture (given input) (λ rs. Got out (text rs)) × AtEnd input × Kept notes
  -- the line of the capture's fault
  MeasuredEnds text input out notes BadCapture = BreaksFormat input out notes
  MeasuredEnds text input out notes ReadFault = CannotRead input out notes
  -- a part of the text
  MeasuredEnds text input out notes OutFault = OnCapture (given input) (λ rs. GotPart out (text rs)) × Failed out × GotLine notes WriteFault
  MeasuredEnds text input out notes Memory = NoMemory out notes
  -- no other status comes
  MeasuredEnds text input out notes _ = ⊥
