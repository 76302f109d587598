use Rattle.std.proofs.Common.{◌≡◌, ◌≤◌, ◌++◌, length, map}
use Rattle.std.specs.List.{AllByRecursion}
use Rattle.trex_core.specs.Batches.{IsWithin}
use Rattle.trex_core.specs.Plan.{IsSlotOf, frame_at}
use Rattle.trex_core.specs.Works.{IsMade}
use Rattle.trex_core.proofs.work.fill.Given as goal

abbrev pub invariant-packets : goal.invariant-packets
invariant-packets l =
    let frame = frame_at l.fn.maker.profile l.fn.maker.base in
    record {
      base : l.batch.base ≡ l.fn.batch.base;
      maker : l.maker ≡ l.fn.maker;
      stem : l.batch.waiting ++ map frame l.walks ≡ l.fn.batch.waiting ++ map frame l.fn.walks;
      more : length l.fn.batch.waiting ≤ length l.batch.waiting;
      within : IsWithin l.batch.waiting;
      made : AllByRecursion IsMade l.batch.waiting;
      slots : AllByRecursion (IsSlotOf l.fn.maker.profile) l.walks;
    }

abbrev pub decreases-packets : goal.decreases-packets
decreases-packets l = length l.walks
