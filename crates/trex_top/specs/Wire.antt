-- What a wire writes. Own.
use Rattle.std.specs.Prelude.{ℕ, List, ◌++◌}
use Rattle.trex_io.specs.Seen.{Seen}
use Rattle.trex_report.specs.Texts.{analysis_text, wire_line}
use Rattle.trex_wire.specs.declared.spec.WireCounts.{WireCounts}
use Rattle.trex_wire.specs.declared.spec.WireSpec.{WireSpec}
use Rattle.trex_wire.specs.Wired.{wire_counts, wired}
use Rattle.trex_words.specs.declared.asked.WireAsk.{WireAsk}

-- the wire that is asked for
abbrev pub spec_of : WireAsk → WireSpec
spec_of ask = record { seed = ask.seed; loss = ask.loss; copy = ask.copy; delay = ask.delay }

-- the line of a wire that has these numbers
abbrev pub line_of : WireCounts → List ℕ
line_of n = wire_line n.sent n.lost n.copied n.arrived

-- what is counted of what arrives of some records, and then the numbers of the wire
unfoldable pub wire_text : WireAsk → List Seen → List ℕ
wire_text ask rs = analysis_text (wired rs (spec_of ask)) ++ line_of (wire_counts rs (spec_of ask))
