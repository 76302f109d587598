-- A session that stopped tells why.
use Rattle.std.proofs.Common.{ℕ, List, take, length}
use Rattle.trex_io.specs.Texts.{Wrote, WrotePart, WrotePrefix}
use Rattle.trex_report.specs.declared.line.Line.TheVariants.{ReadFault, WriteFault, OutOfMemory}
use Rattle.trex_report.specs.Texts.{line_text}
use Rattle.trex_rpc.specs.Heard.{heard}
use Rattle.trex_rpc.specs.Talk.{captures, replies}
use Rattle.trex_top.specs.Ends.Session.{starts}
use Rattle.trex_top.proofs.SessionLemmas.{then_line}
use Rattle.trex_top.proofs.commands.session.session.Goals as goal

pub returns-in-Err-ReadFault : goal.returns-in-Err-ReadFault
returns-in-Err-ReadFault g c =
    let stops = rw c.in-Err-ReadFault.field-0-is at c.in-Err-ReadFault.ensures.stops in (
      c.in-Err-ReadFault.ensures.read_cause (cc),
      then_line g.N.Sink.held g.N.Sink.faults c.args.notes.now c.talk.new.notes c.tell.new.notes (g.S.Source.left c.args.input.now)
          (λ b. WrotePrefix g.O.Sink.held c.args.out.now c.talk.new.out (captures starts (heard b).lines)) (λ b. replies starts (heard b).lines) (line_text ReadFault)
          stops c.in-Err-ReadFault.ensures.notes_later c.tell.ensures,
    )

pub returns-in-Err-OutFault : goal.returns-in-Err-OutFault
returns-in-Err-OutFault g c =
    let stops = rw c.in-Err-OutFault.field-0-is at c.in-Err-OutFault.ensures.stops in (
      c.in-Err-OutFault.ensures.out_cause (cc),
      then_line g.N.Sink.held g.N.Sink.faults c.args.notes.now c.talk.new.notes c.tell-in-Err-OutFault.new.notes (g.S.Source.left c.args.input.now)
          (λ b. WrotePart g.O.Sink.held c.args.out.now c.talk.new.out (captures starts (heard b).lines)) (λ b. replies starts (heard b).lines) (line_text WriteFault)
          stops c.in-Err-OutFault.ensures.notes_later c.tell-in-Err-OutFault.ensures,
    )

pub returns-in-Err-Memory : goal.returns-in-Err-Memory
returns-in-Err-Memory g c =
    let stops = rw c.in-Err-Memory.field-0-is at c.in-Err-Memory.ensures.stops in
    then_line g.N.Sink.held g.N.Sink.faults c.args.notes.now c.talk.new.notes c.tell-in-Err-Memory.new.notes (g.S.Source.left c.args.input.now)
    (λ b. (n : ℕ) × Wrote g.O.Sink.held c.args.out.now c.talk.new.out (captures starts (take n (heard b).lines))) (λ b. replies starts (heard b).lines) (line_text OutOfMemory)
    stops c.in-Err-Memory.ensures.notes_later c.tell-in-Err-Memory.ensures
