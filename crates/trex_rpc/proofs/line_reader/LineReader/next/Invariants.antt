-- The bytes that were read so far are the front of a line.
use Rattle.std.proofs.Common.{◌-◌, ◌≤◌, vec_len}
use Rattle.std.specs.Io.KnownBytes.{Consumes}
use Rattle.trex_rpc.specs.Lines.{ahead, NoFeed}
use Rattle.trex_rpc.proofs.line_reader.LineReader.next.Given as goal

abbrev pub invariant-pieces : goal.invariant-pieces
invariant-pieces g l = record {
  taken : Consumes (ahead g.S.Source.left l.initial.self l.initial.source) (ahead g.S.Source.left l.self l.source) l.line.items;
  free : NoFeed l.line.items;
  later : g.S.Source.faults l.initial.source ≤ g.S.Source.faults l.source;
}

abbrev pub decreases-pieces : goal.decreases-pieces
decreases-pieces g l = 1048577 - vec_len l.line
