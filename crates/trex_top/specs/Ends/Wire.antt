-- How a wire ends: with the lines of what arrives, and that of the wire. Own.
use Rattle.trex_words.specs.declared.asked.WireAsk.{WireAsk}
use Rattle.trex_top.specs.declared.status.Status.{Status}
use Rattle.trex_top.specs.Ends.Measured.{MeasuredEnds}
use Rattle.trex_top.specs.Sides.{Side}
use Rattle.trex_top.specs.Wire.{wire_text}

module _ {S O N : Type 0} where
  abbrev pub WireEnds : WireAsk → Side S → Side O → Side N → Status → Type 0
  WireEnds ask input out notes s = MeasuredEnds (wire_text ask) input out notes s
