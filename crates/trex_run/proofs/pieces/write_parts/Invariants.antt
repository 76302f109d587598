use Rattle.std.proofs.Common.{◌≡◌, ◌≤◌, List, ℕ, ◌++◌, length}
use Rattle.trex_io.specs.Texts.{Wrote}
use Rattle.trex_run.proofs.pieces.write_parts.Given as goal

abbrev pub invariant-parts : goal.invariant-parts
invariant-parts g l = record {
  front : List ℕ;
  wrote : Wrote g.O.Sink.held l.initial.out l.out front;
  is : l.fn.text ≡ front ++ l.rest;
  faults : g.O.Sink.faults l.initial.out ≤ g.O.Sink.faults l.out;
}

abbrev pub decreases-parts : goal.decreases-parts
decreases-parts g l = length l.rest
