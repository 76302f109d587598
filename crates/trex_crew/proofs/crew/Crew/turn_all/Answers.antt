use Rattle.std.proofs.Common.{sym, subst}
use Rattle.trex_crew.specs.Crews.{works_of}
use Rattle.trex_crew.specs.Told.{Entered}
use Rattle.trex_crew.proofs.EntryLemmas.{entered_first}
use Rattle.trex_crew.proofs.crew.Crew.turn_all.Goals as goal
use Rattle.trex_crew.proofs.crew.Crew.turn_all.Goals.{then-len-cores+then-is_in_order, else-len-cores}

pub returns-clause-gates : goal.returns-clause-gates
returns-clause-gates g c =
    let crew = c.args.self.now in
    let gates = c.args.gates.now in
    elim c.if-len-cores.branch [
      | then-len-cores+then-is_in_order w ↦
          subst (Entered g.G.Gate.entries g.T.Piece.core_of (works_of crew) crew.rounds gates) (sym w.gates-is) w.round_on_board.ensures.gates
      | else-len-cores w ↦
          subst (Entered g.G.Gate.entries g.T.Piece.core_of (works_of crew) crew.rounds gates) (sym w.gates-is)
          (entered_first g.G.Gate.entries g.T.Piece.core_of crew.rounds w.deref_mut.result.now (works_of crew) gates w.index-gates-0.result w.turn_by_one.new.gate w.deref_mut.ensures.value c.requires.gates w.turn_by_one.ensures.gate)
    ]
