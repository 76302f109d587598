use Rattle.std.proofs.Common.{sym, ap, ◌∙◌, subst}
use Rattle.std.specs.List.{AllByRecursion}
use Rattle.trex_core.specs.Batches.{IsWithin}
use Rattle.trex_core.specs.Records.{BatchView}
use Rattle.trex_core.specs.Works.{IsMade}
use Rattle.trex_core.proofs.Records.{all_drop, within_drop}
use Rattle.trex_core.proofs.work.CoreWork.drop_run.Goals as goal

pub invariant_of-self : goal.invariant_of-self
invariant_of-self c =
    let i = c.self.inside in
    let is = sym c.drop_run.ensures in (
      c.self.invariant.0,
      subst (λ (b : BatchView). IsWithin b.waiting) is (within_drop c.args.packets i.batch.waiting c.self.invariant.1),
      subst (λ (b : BatchView). AllByRecursion IsMade b.waiting) is (all_drop IsMade c.args.packets i.batch.waiting c.self.invariant.2),
      ap (λ (b : BatchView). b.base) c.drop_run.ensures ∙ c.self.invariant.3,
    )
