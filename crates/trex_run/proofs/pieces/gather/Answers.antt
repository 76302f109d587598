use Rattle.std.proofs.Common.{arith}
use Rattle.trex_io.proofs.TextLemmas.{WrotePart-longer}
use Rattle.trex_run.proofs.CaptureLemmas.{written_itself}
use Rattle.trex_run.proofs.pieces.gather.Goals as goal

pub returns-in-Err-clause-part : goal.returns-in-Err-clause-part
returns-in-Err-clause-part g c = WrotePart-longer g.O.Sink.held c.args.out.now c.make_room.new.out c.args.piece.now.items c.args.text.now c.in-Err.ensures.part

pub returns-then-text-gt-PIECE-clause-gathers : goal.returns-then-text-gt-PIECE-clause-gathers
returns-then-text-gt-PIECE-clause-gathers g c =
    (written_itself g.O.Sink.held g.O.Sink.faults c.args.out.now c.make_room.new.out c.write_parts.new.out c.write_parts.result c.args.piece.now.items c.make_room.new.piece.items
    c.args.text.now c.in_default.ensures.gathers (c.in_default.ensures.empty (omega arith)) c.write_parts.ensures).0

pub returns-then-text-gt-PIECE-clause-part : goal.returns-then-text-gt-PIECE-clause-part
returns-then-text-gt-PIECE-clause-part g c =
    (written_itself g.O.Sink.held g.O.Sink.faults c.args.out.now c.make_room.new.out c.write_parts.new.out c.write_parts.result c.args.piece.now.items c.make_room.new.piece.items
    c.args.text.now c.in_default.ensures.gathers (c.in_default.ensures.empty (omega arith)) c.write_parts.ensures).1
