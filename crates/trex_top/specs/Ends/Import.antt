-- How an import ends: what holds at each status. Own; the grammar of captures is pcap 2.4.
use Rattle.std.specs.Prelude.{◌≡◌, None, Some}
use Rattle.trex_import.specs.Fit.{unfit_of}
use Rattle.trex_import.specs.Imported.{imported}
use Rattle.trex_measure.specs.Measured.{OnCapture}
use Rattle.trex_pcap.specs.declared.unfit.Unfit.{Unfit as WhyUnfit}
use Rattle.trex_report.specs.declared.line.Line.TheVariants.{Unfit as UnfitLine, WriteFault}
use Rattle.trex_top.specs.declared.status.Status.{Status}
use Rattle.trex_top.specs.declared.status.Status.TheVariants.{Done, ReadFault, BadCapture, Unfit, OutFault, Memory}
use Rattle.trex_top.specs.Rows.{Says, BreaksFormat, CannotRead, NoMemory}
use Rattle.trex_top.specs.Sides.{Side, Kept, Failed, given, AtEnd, Got, GotPart, GotLine}

module _ {S O N : Type 0} where
  abbrev pub ImportEnds : Side S → Side O → Side N → Status → Type 0
  -- the whole text of the profile
  ImportEnds input out notes Done =
      OnCapture (given input) (λ rs. (unfit_of rs ≡ None) × Got out (imported rs)) × AtEnd input × Kept notes
  -- the line of the first rule that makes the capture unfit
  ImportEnds input out notes Unfit =
      (u : WhyUnfit) × OnCapture (given input) (λ rs. unfit_of rs ≡ Some u) × AtEnd input × Says out notes (UnfitLine u)
  -- the line of the capture's fault
  ImportEnds input out notes BadCapture = BreaksFormat input out notes
  ImportEnds input out notes ReadFault = CannotRead input out notes
  -- a part of the text
  ImportEnds input out notes OutFault =
      OnCapture (given input) (λ rs. (unfit_of rs ≡ None) × GotPart out (imported rs)) × Failed out × GotLine notes WriteFault
  ImportEnds input out notes Memory = NoMemory out notes
  -- no other status comes
  ImportEnds input out notes _ = ⊥
