-- The line of the wire comes after the lines of what arrived.
use Rattle.std.proofs.Common.{◌≡◌, ◌++◌, List, ap, ◌∙◌}
use Rattle.trex_io.specs.Seen.{Seen}
use Rattle.trex_io.proofs.TextLemmas.{Writes-after}
use Rattle.trex_report.specs.Texts.{analysis_text, kept_text}
use Rattle.trex_stats.specs.Counts.{Counts, StandsFor}
use Rattle.trex_wire.specs.Behind.{IsBehind}
use Rattle.trex_wire.specs.declared.spec.WireCounts.{WireCounts}
use Rattle.trex_wire.specs.Wired.{wired}
use Rattle.trex_words.specs.declared.asked.WireAsk.{WireAsk}
use Rattle.trex_top.specs.Wire.{line_of, spec_of, wire_text}
use Rattle.trex_top.proofs.commands.wire.write_measured.Goals as goal

-- what is measured behind a wire is its text
measured : (c : Counts) (n : WireCounts) (ask : WireAsk) (rs : List Seen)
    → ((ss : List Seen) → StandsFor c ss → kept_text c ≡ analysis_text ss)
    → IsBehind (spec_of ask) (c, n) rs → kept_text c ++ line_of n ≡ wire_text ask rs
unfolding wire_text
measured c n ask rs analysis (stands, numbers) =
    let arrived = wired rs (spec_of ask) in
    ap (λ text. text ++ line_of n) (analysis arrived stands) ∙ ap (λ m. analysis_text arrived ++ line_of m) numbers

pub returns-in-Err-clause-behind : goal.returns-in-Err-clause-behind
returns-in-Err-clause-behind g c ask rs behind = measured c.args.stats.now c.args.counts ask rs c.write_flows.ensures.analysis behind

pub returns-clause-behind : goal.returns-clause-behind
returns-clause-behind g c ask rs behind = measured c.args.stats.now c.args.counts ask rs c.write_flows.ensures.analysis behind

pub returns-clause-writes : goal.returns-clause-writes
returns-clause-writes g c =
    Writes-after g.O.Sink.held g.O.Sink.faults c.args.to.now c.write_flows.new.to c.write_line.new.to c.write_line.result _ _
    c.in_default.ensures.writes.whole c.in_default.ensures.writes.cause.later (rw c.line.ensures at c.write_line.ensures)
