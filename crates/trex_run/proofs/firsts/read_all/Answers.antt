use Rattle.trex_core.specs.Works.{Work}
use Rattle.trex_run.proofs.LookLemmas.{reads_one}
use Rattle.trex_run.proofs.firsts.read_all.Goals as goal

pub loop-at-preserved : goal.loop-at-preserved
loop-at-preserved c =
    reads_one (λ (w : Work). w.queue) c.args.works.now c.loop-at.at c.index-works-at.result c.loop-at.firsts c.first_key.result c.loop-at-test.true
    c.index-works-at.is c.first_key.ensures c.loop-at.invariant
