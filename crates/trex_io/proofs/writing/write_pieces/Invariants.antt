-- The pieces before this one were written.
use Rattle.std.proofs.Common.{◌≤◌, take}
use Rattle.std.specs.List.{flat_map}
use Rattle.trex_io.specs.Texts.{Wrote}
use Rattle.trex_io.proofs.writing.write_pieces.Given as goal

abbrev pub invariant-loop-piece : goal.invariant-loop-piece
invariant-loop-piece g l = record {
  written : Wrote g.O.Sink.held l.initial.sink l.sink (flat_map (λ piece. piece.now) (take l.piece-index l.pieces));
  faults : g.O.Sink.faults l.initial.sink ≤ g.O.Sink.faults l.sink;
}
