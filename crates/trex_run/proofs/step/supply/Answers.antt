use Rattle.std.proofs.Common.{sym, subst}
use Rattle.trex_core.specs.Works.{Work}
use Rattle.trex_crew.specs.Crews.{works_of}
use Rattle.trex_run.specs.Rounds.{EnteredAfter}
use Rattle.trex_run.proofs.step.supply.Goals as goal

pub returns-in-Need-clause-gates : goal.returns-in-Need-clause-gates
returns-in-Need-clause-gates g c =
    let crew = c.args.crew.now in
    subst (λ n. EnteredAfter g.G.Gate.entries (λ (w : Work). w.core) n (works_of crew) crew.rounds c.args.gates.now c.round.new.gates) (sym c.in-Need.is) c.round.ensures.gates
