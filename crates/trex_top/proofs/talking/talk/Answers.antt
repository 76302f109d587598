-- How the session stands after each line, ends and stops.
use Rattle.std.proofs.Common.{◌≡◌, false, arith}
use Rattle.trex_rpc.specs.declared.judging.Judged.TheVariants.{Quits, Breaks, Goes}
use Rattle.trex_rpc.specs.Heard.{is_end}
use Rattle.trex_rpc.specs.Lines.{ahead}
use Rattle.trex_top.specs.Ends.Session.{starts}
use Rattle.trex_rpc.proofs.TalkLemmas.{Next-read, BeginsWith-line, BeginsWith-quit, SoFar-first, SoFar-more, goes_on, quits, stops_answering, stops_much, stops_unheard}
use Rattle.trex_top.proofs.talking.talk.Goals as goal

pub lines-init : goal.lines-init
lines-init g c =
    record {
      spoken = rw (c.new-reader.ensures, c.new-session.ensures) (SoFar-first starts g.O.Sink.held g.N.Sink.held c.args.out.now c.args.notes.now (g.S.Source.left c.args.input.now));
      few = omega arith;
      numbers = omega arith;
      reads = omega arith;
      writes = omega arith;
      notes_later = omega arith;
    }

pub returns-in-Err-clause-stops : goal.returns-in-Err-clause-stops
returns-in-Err-clause-stops g c =
    rw c.unheard.ensures
    (stops_unheard starts g.O.Sink.held g.N.Sink.held c.args.out.now c.args.notes.now (g.S.Source.left c.args.input.now)
    (ahead g.S.Source.left c.lines.reader c.lines.input) (ahead g.S.Source.left c.next.new.self c.next.new.source)
    c.lines.before c.lines.number c.lines.session c.lines.out c.lines.notes c.next.new.line.items c.in-Err.fault c.lines.invariant.spoken c.in-Err.ensures.line)

pub returns-in-Err-respond-clause-stops : goal.returns-in-Err-respond-clause-stops
returns-in-Err-respond-clause-stops g c =
    let left = g.S.Source.left in
    let s = c.lines.invariant.spoken in
    let line = c.as_slice-text.result.now in
    let unended : is_end line c.in-Ok.ended ≡ false = cc in
    let next = Next-read (left c.args.input.now) (ahead left c.lines.reader c.lines.input) c.next.new.self (left c.next.new.source) c.lines.before s.done c.next.new.line.items line c.in-Ok.ended
    Quits s.goes_on c.in-Ok.ensures.line c.as_slice-text.ensures.value unended c.in-Quits.ensures in
    let begins = BeginsWith-quit (left c.args.input.now) c.next.new.self (left c.next.new.source) s.done line next in
    rw c.stop_of.ensures
    (stops_answering starts g.O.Sink.held g.N.Sink.held c.args.out.now c.args.notes.now g.O.Sink.faults g.N.Sink.faults (left c.args.input.now) (ahead left c.lines.reader c.lines.input)
    c.lines.before c.lines.number c.lines.session c.lines.out c.respond.new.out c.lines.notes c.respond.new.notes line c.in-Err-respond.fault s begins c.in-Err-respond.ensures.answered)

pub returns-in-Quits-clause-done : goal.returns-in-Quits-clause-done
returns-in-Quits-clause-done g c =
    let left = g.S.Source.left in
    let s = c.lines.invariant.spoken in
    let line = c.as_slice-text.result.now in
    let unended : is_end line c.in-Ok.ended ≡ false = cc in
    let next = Next-read (left c.args.input.now) (ahead left c.lines.reader c.lines.input) c.next.new.self (left c.next.new.source) c.lines.before s.done c.next.new.line.items line c.in-Ok.ended
    Quits s.goes_on c.in-Ok.ensures.line c.as_slice-text.ensures.value unended c.in-Quits.ensures in
    let answered = c.in_default.ensures.answered in
    quits starts g.O.Sink.held g.N.Sink.held c.args.out.now c.args.notes.now (left c.args.input.now) (ahead left c.lines.reader c.lines.input) c.next.new.self (left c.next.new.source)
    c.lines.before c.lines.number c.lines.session c.lines.out c.respond.new.out c.lines.notes c.respond.new.notes line s next answered.0 answered.1

pub returns-in-Breaks-clause-stops : goal.returns-in-Breaks-clause-stops
returns-in-Breaks-clause-stops g c =
    let left = g.S.Source.left in
    let s = c.lines.invariant.spoken in
    let line = c.as_slice-text.result.now in
    let unended : is_end line c.in-Ok.ended ≡ false = cc in
    let next = Next-read (left c.args.input.now) (ahead left c.lines.reader c.lines.input) c.next.new.self (left c.next.new.source) c.lines.before s.done c.next.new.line.items line c.in-Ok.ended
    Breaks s.goes_on c.in-Ok.ensures.line c.as_slice-text.ensures.value unended c.in-Breaks.ensures in
    stops_much starts g.O.Sink.held g.N.Sink.held c.args.out.now c.args.notes.now (left c.args.input.now) (ahead left c.lines.reader c.lines.input) c.next.new.self (left c.next.new.source)
    c.lines.before c.lines.number c.lines.session c.lines.out c.lines.notes line s next

pub returns-in-Err-respond-2-clause-stops : goal.returns-in-Err-respond-2-clause-stops
returns-in-Err-respond-2-clause-stops g c =
    let left = g.S.Source.left in
    let s = c.lines.invariant.spoken in
    let line = c.as_slice-text.result.now in
    let unended : is_end line c.in-Ok.ended ≡ false = cc in
    let next = Next-read (left c.args.input.now) (ahead left c.lines.reader c.lines.input) c.next.new.self (left c.next.new.source) c.lines.before s.done c.next.new.line.items line c.in-Ok.ended
    (Goes c.in-Goes.total) s.goes_on c.in-Ok.ensures.line c.as_slice-text.ensures.value unended c.in-Goes.ensures in
    let begins = BeginsWith-line (left c.args.input.now) c.next.new.self (left c.next.new.source) s.done c.in-Goes.total line next in
    rw c.stop_of-in-Err-respond-2.ensures
    (stops_answering starts g.O.Sink.held g.N.Sink.held c.args.out.now c.args.notes.now g.O.Sink.faults g.N.Sink.faults (left c.args.input.now) (ahead left c.lines.reader c.lines.input)
    c.lines.before c.lines.number c.lines.session c.lines.out c.respond-in-lines.new.out c.lines.notes c.respond-in-lines.new.notes line c.in-Err-respond-2.fault s begins c.in-Err-respond-2.ensures.answered)

pub lines-preserved : goal.lines-preserved
lines-preserved g c =
    let left = g.S.Source.left in
    let s = c.lines.invariant.spoken in
    let line = c.as_slice-text.result.now in
    let unended : is_end line c.in-Ok.ended ≡ false = cc in
    let next = Next-read (left c.args.input.now) (ahead left c.lines.reader c.lines.input) c.next.new.self (left c.next.new.source) c.lines.before s.done c.next.new.line.items line c.in-Ok.ended
    (Goes c.in-Goes.total) s.goes_on c.in-Ok.ensures.line c.as_slice-text.ensures.value unended c.in-Goes.ensures in
    let many = goes_on line c.in-Ok.ended c.lines.before c.in-Goes.total unended c.in-Goes.ensures in
    let answered = c.in_default-respond.ensures.answered in
    record {
      spoken = SoFar-more starts g.O.Sink.held g.N.Sink.held c.args.out.now c.args.notes.now (left c.args.input.now) (ahead left c.lines.reader c.lines.input) c.next.new.self (left c.next.new.source)
          c.lines.before c.in-Goes.total c.lines.number c.lines.session c.respond-in-lines.new.session c.lines.out c.respond-in-lines.new.out c.lines.notes c.respond-in-lines.new.notes line s next
          c.in_default-respond.ensures.table answered.0 answered.1;
      few = many.0;
      numbers = let most = c.lines.invariant.numbers in omega (arith, many.1);
      reads = omega (arith, c.lines.invariant.reads, c.in-Ok.ensures.later);
      writes = omega (arith, c.lines.invariant.writes, c.in_default-respond.ensures.out_later);
      notes_later = omega (arith, c.lines.invariant.notes_later, c.in_default-respond.ensures.notes_later);
    }
