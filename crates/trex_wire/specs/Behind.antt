-- What is measured of a capture behind a wire. Own.
use Rattle.std.specs.Prelude.{◌≡◌, List}
use Rattle.trex_io.specs.Seen.{Seen}
use Rattle.trex_stats.specs.Counts.{Counts, StandsFor}
use Rattle.trex_wire.specs.declared.spec.WireCounts.{WireCounts}
use Rattle.trex_wire.specs.declared.spec.WireSpec.{WireSpec}
use Rattle.trex_wire.specs.Wired.{wire_counts, wired}

-- The counts are those of what a wire gives of these records, and the numbers are the wire's.
abbrev pub IsBehind : WireSpec → Counts × WireCounts → List Seen → Type 0
IsBehind ask p rs = StandsFor p.0 (wired rs ask) × (p.1 ≡ wire_counts rs ask)
