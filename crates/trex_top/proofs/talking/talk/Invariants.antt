-- What was done so far is what the lines that were heard so far say.
use Rattle.std.proofs.Common.{◌≤◌, ◌-◌}
use Rattle.trex_rpc.specs.Lines.{ahead}
use Rattle.trex_rpc.proofs.TalkLemmas.{SoFar}
use Rattle.trex_top.specs.Ends.Session.{starts}
use Rattle.trex_top.proofs.talking.talk.Given as goal

abbrev pub invariant-lines : goal.invariant-lines
invariant-lines g l = record {
  spoken : SoFar starts g.O.Sink.held g.N.Sink.held l.initial.out l.initial.notes
      (g.S.Source.left l.initial.input) (ahead g.S.Source.left l.reader l.input) l.before l.number l.session l.out l.notes;
  few : l.before ≤ 268435456;
  numbers : l.number ≤ l.before;
  reads : g.S.Source.faults l.initial.input ≤ g.S.Source.faults l.input;
  writes : g.O.Sink.faults l.initial.out ≤ g.O.Sink.faults l.out;
  notes_later : g.N.Sink.faults l.initial.notes ≤ g.N.Sink.faults l.notes;
}

abbrev pub decreases-lines : goal.decreases-lines
decreases-lines g l = 268435456 - l.before
