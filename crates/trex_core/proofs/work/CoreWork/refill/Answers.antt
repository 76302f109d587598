use Rattle.std.proofs.Common.{◌≡◌, ◌+◌, map, sym, ap, ◌∙◌, subst}
use Rattle.std.specs.List.{AllByRecursion}
use Rattle.trex_merge.specs.Queues.{Queue, refilled}
use Rattle.trex_core.specs.Batches.{IsWithin}
use Rattle.trex_core.specs.Plan.{IsSlotOf, PlanOf, frame_at}
use Rattle.trex_core.specs.Works.{Work, added, turned}
use Rattle.trex_core.specs.Beginnings.{batch_within}
use Rattle.trex_core.specs.Turning.{turned_is}
use Rattle.trex_core.proofs.work.CoreWork.refill.Goals as goal

pub invariant_of-self : goal.invariant_of-self
invariant_of-self c = (
  subst (λ (m : PlanOf). AllByRecursion (IsSlotOf m.profile) c.fill.new.walks) (sym c.fill.ensures.maker) c.fill.ensures.slots,
  subst IsWithin (sym c.fill.ensures.settled) (batch_within _),
  c.fill.ensures.made,
  c.fill.ensures.base ∙ c.self.invariant.3 ∙ sym (ap (λ (m : PlanOf). m.base) c.fill.ensures.maker),
)

pub returns-clause-turned : goal.returns-clause-turned
returns-clause-turned c =
    let i = c.self.inside in
    let frame = frame_at i.maker.profile i.maker.base in
    let old : Queue = record { waiting = i.batch.waiting; coming = map frame i.walks } in
    let new : Queue = record { waiting = c.fill.new.batch.waiting; coming = map frame c.fill.new.walks } in
    let e : new ≡ refilled (added old) old = turned_is old new c.fill.ensures.stem c.fill.ensures.more c.fill.ensures.settled in
    ap (λ (m : PlanOf). let w : Work = record { core = i.core; turns = i.turns + 1; base = c.fill.new.batch.base; queue = record { waiting = c.fill.new.batch.waiting; coming = map (frame_at m.profile m.base) c.fill.new.walks } } in w) c.fill.ensures.maker
    ∙ ap (λ (q : Queue). let w : Work = record { core = i.core; turns = i.turns + 1; base = c.fill.new.batch.base; queue = q } in w) e
    ∙ ap (λ n. let w : Work = record { core = i.core; turns = i.turns + 1; base = n; queue = refilled (added old) old } in w) c.fill.ensures.base
    ∙ ap turned c.self.view_is
