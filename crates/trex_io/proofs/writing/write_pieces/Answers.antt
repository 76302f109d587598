-- The pieces stopped half-way through this one.
use Rattle.std.proofs.Common.{[]}
use Rattle.trex_io.proofs.FaultLemmas.{HasCause-failed}
use Rattle.trex_io.proofs.TextLemmas.{WrotePart-pieces}
use Rattle.trex_io.proofs.writing.write_pieces.Goals as goal

pub returns-in-Err : goal.returns-in-Err
returns-in-Err g c =
    let failed = c.in-Err.ensures in
    record {
      whole = tt;
      part = WrotePart-pieces g.O.Sink.held (λ piece. piece.now) c.args.pieces.now c.loop-piece.piece-index (record { ref_ptr = (0, 0); now = [] }) _ _ _ c.loop-piece-test.true c.loop-piece.invariant.written failed.part;
      cause = HasCause-failed g.O.Sink.faults _ _ _ _ c.loop-piece.invariant.faults failed.cause.later failed.cause.failed;
    }
