use Rattle.trex_core.specs.Works.{Work}
use Rattle.trex_run.proofs.LookLemmas.{HasRead}
use Rattle.trex_run.proofs.firsts.read_all.Given as goal

abbrev pub invariant-loop-at : goal.invariant-loop-at
invariant-loop-at l = HasRead (λ (w : Work). w.queue) l.works l.at l.firsts
