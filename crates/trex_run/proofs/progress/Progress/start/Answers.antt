use Rattle.std.proofs.Common.{◌≡◌, ◌+◌, ◌-◌, ◌≤◌, List, length, take, ap, subst, ◌∙◌, arith}
use Rattle.trex_core.specs.Plan.{frames_of_plan}
use Rattle.trex_core.specs.Works.{Work}
use Rattle.trex_crew.specs.Crews.{works_of}
use Rattle.trex_merge.specs.Frames.{sequence}
use Rattle.trex_merge.specs.Queues.{next_of}
use Rattle.trex_run.specs.Capture.{tallies}
use Rattle.trex_run.specs.Step.{packet_ahead}
use Rattle.trex_run.specs.Firsts.{IsBound, firsts_of}
use Rattle.trex_run.specs.Ready.{queues_of}
use Rattle.trex_run.proofs.BaseLemmas.{first_bases}
use Rattle.trex_run.proofs.ReadyLemmas.{begins, reached_is}
use Rattle.trex_run.proofs.StateLemmas.{early_by}
use Rattle.trex_run.proofs.progress.Progress.start.Goals as goal

pub invariant_of-result : goal.invariant_of-result
invariant_of-result c =
    let frames = frames_of_plan c.args.plan.now in
    let works = works_of c.args.crew in
    let mill = c.new-mill.result in
    let none = c.new-mill.ensures.sent in
    let next : c.look-coming.result.next ≡ next_of (mill.limit - 0) (queues_of works) = rw (c.left.ensures, none, c.works-2.ensures) at c.look-coming.ensures.next in
    let few : mill.limit ≤ 100000000 = omega (arith, c.new-mill.ensures.limit, c.requires.limit) in
    let begun = begins c.args.plan.now.base frames works (length works) mill.limit c.look-coming.result.next (c.plans_rise.ensures.distinct c.args.plan.now c.requires.kept)
    c.requires.short c.requires.some few c.requires.works next in
    let zero_gone : 0 ≡ mill.sent + packet_ahead c.look-coming.result.next = omega (arith, none, begun.none) in (
      rw (c.requires.rounds, none) begun.ready,
      c.requires.tallies ∙ ap (λ n. tallies c.args.plan.now.profile (take n (sequence mill.limit frames))) zero_gone,
      early_by c.args.plan.now.duration frames c.requires.duration (c.plans_rise.ensures.below c.args.plan.now),
      rw c.requires.works (first_bases c.args.plan.now.base (length works) frames 0 (length works)),
      c.read_all.ensures ∙ ap (λ (w : List Work). firsts_of (queues_of w)) c.works.ensures,
      subst (λ (w : List Work). IsBound c.look-coming.result.next c.look-coming.result.before (queues_of w)) c.works-2.ensures c.look-coming.ensures.bound,
    )

pub returns-clause-none : goal.returns-clause-none
returns-clause-none c =
    let frames = frames_of_plan c.args.plan.now in
    let works = works_of c.args.crew in
    let mill = c.new-mill.result in
    let none = c.new-mill.ensures.sent in
    let next : c.look-coming.result.next ≡ next_of (mill.limit - 0) (queues_of works) = rw (c.left.ensures, none, c.works-2.ensures) at c.look-coming.ensures.next in
    let few : mill.limit ≤ 100000000 = omega (arith, c.new-mill.ensures.limit, c.requires.limit) in
    let begun = begins c.args.plan.now.base frames works (length works) mill.limit c.look-coming.result.next (c.plans_rise.ensures.distinct c.args.plan.now c.requires.kept)
    c.requires.short c.requires.some few c.requires.works next in
    let zero_gone : 0 + packet_ahead c.look-coming.result.next ≡ 0 = omega (arith, begun.none) in
    rw none (reached_is frames works 0 mill.limit 0 c.look-coming.result.next begun.ready ∙ zero_gone)
