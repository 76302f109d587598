use Rattle.trex_io.proofs.TextLemmas.{Writes-after}
use Rattle.trex_report.proofs.report.write_report.Goals as goal

pub returns : goal.returns
returns g c =
    rw (← c.packets_of.ensures, ← c.bytes_of.ensures)
    (Writes-after g.N.Sink.held g.N.Sink.faults c.args.to.now c.write_tallies.new.to c.write_total.new.to c.write_total.result _ _ c.in_default.ensures.whole c.in_default.ensures.cause.later c.write_total.ensures)
