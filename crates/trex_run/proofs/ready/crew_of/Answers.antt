use Rattle.std.proofs.Common.{◌≡◌, ◌++◌, ◌∷◌, [], length, map, ap, ◌∙◌, arith}
use Rattle.std.specs.List.{range_with_len}
use Rattle.trex_core.specs.Plan.{frames_of_plan}
use Rattle.trex_core.specs.Works.{Work}
use Rattle.trex_run.specs.Ready.{first_work, first_works}
use Rattle.trex_run.proofs.ReadyLemmas.{works_count, works_in_order, works_more}
use Rattle.trex_run.proofs.ready.crew_of.Goals as goal

pub loop-core-preserved : goal.loop-core-preserved
loop-core-preserved c =
    let frames = frames_of_plan c.args.plan.now in
    c.in_ok-push.ensures.items ∙ ap (λ (w : Work). c.loop-core.works.items ++ w ∷ []) c.in_ok-new.ensures
    ∙ works_more c.args.plan.now.base c.args.cores c.loop-core.core frames c.loop-core.works.items c.loop-core.invariant

pub new-requires-2-clause-few : goal.new-requires-2-clause-few
new-requires-2-clause-few c = λ lifetimes.
    let frames = frames_of_plan c.args.plan.now in
    let all : c.loop-core.core ≡ c.args.cores = omega arith in
    let count : length c.loop-core.works.items ≡ c.args.cores = ap length c.loop-core.invariant ∙ ap (λ n. length (map (first_work c.args.plan.now.base c.args.cores frames) (range_with_len 0 n))) all ∙ works_count c.args.plan.now.base c.args.cores frames in
    let few = c.requires.few in
    let long = c.loop-core.works.ok.0 in
    omega (arith, count, few, long)

pub new-requires-2-clause-cores : goal.new-requires-2-clause-cores
new-requires-2-clause-cores c = λ lifetimes.
    let frames = frames_of_plan c.args.plan.now in
    let all : c.loop-core.core ≡ c.args.cores = omega arith in
    let works : c.loop-core.works.items ≡ first_works c.args.plan.now.base c.args.cores frames =
    c.loop-core.invariant ∙ ap (λ n. map (first_work c.args.plan.now.base c.args.cores frames) (range_with_len 0 n)) all in
    rw works (works_in_order c.args.plan.now.base c.args.cores frames)
