use Rattle.std.proofs.Common.{arith}
use Rattle.trex_io.proofs.TextLemmas.{WrotePart-pieces}
use Rattle.trex_io.proofs.FaultLemmas.{HasCause-failed}
use Rattle.trex_report.specs.Texts.{tally_line}
use Rattle.trex_report.proofs.report.write_tallies.Goals as goal

pub returns-in-Err : goal.returns-in-Err
returns-in-Err g c =
    let failed = c.in-Err.ensures in
    record {
      whole = tt;
      part = WrotePart-pieces g.N.Sink.held tally_line c.args.tallies.now c.loop-tally.tally-index _ c.args.to.now c.loop-tally.to c.write_tally.new.to (omega arith) c.loop-tally.invariant.written failed.part;
      cause = HasCause-failed g.N.Sink.faults c.args.to.now c.loop-tally.to c.write_tally.new.to c.in-Err.failed c.loop-tally.invariant.faults failed.cause.later failed.cause.failed;
    }
