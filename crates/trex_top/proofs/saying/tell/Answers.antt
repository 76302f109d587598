use Rattle.trex_top.proofs.Lines.{Tells-from_Writes}
use Rattle.trex_top.proofs.saying.tell.Goals as goal

pub returns : goal.returns
returns g c = Tells-from_Writes g.N.Sink.held g.N.Sink.faults c.args.notes.now c.write_line.new.to c.write_line.result _ c.write_line.ensures
