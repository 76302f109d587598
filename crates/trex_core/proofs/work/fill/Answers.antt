use Rattle.std.proofs.Common.{◌≡◌, false, length, sym, ap, ◌∙◌}
use Rattle.trex_core.specs.Batches.{batch_of, has_room_for}
use Rattle.trex_core.specs.Plan.{PlanOf, frame_at, packet_bytes}
use Rattle.trex_core.specs.Records.{BatchView}
use Rattle.trex_core.proofs.Filling.{full_is, last_is, none_is}
use Rattle.trex_core.proofs.work.fill.Goals as goal

pub returns-then-not-put-clause-settled : goal.returns-then-not-put-clause-settled
returns-then-not-put-clause-settled c =
    let frame = frame_at c.args.maker.now.profile c.args.maker.now.base in
    let slot = c.in-Some.slot in
    let before = c.packets in
    let full : has_room_for before.batch.waiting (length (frame slot).bytes) ≡ false =
    ap (λ (p : PlanOf). has_room_for before.batch.waiting (length (packet_bytes p.profile p.base slot))) (sym before.invariant.maker)
    ∙ sym c.put.ensures.room ∙ c.if-not-put.true in
    ap (λ (b : BatchView). b.waiting) (c.put.ensures.kept c.if-not-put.true)
    ∙ sym (full_is frame before.batch.waiting before.walks slot before.invariant.within c.in-Some.ensures full) ∙ ap batch_of before.invariant.stem

pub returns-clause-settled : goal.returns-clause-settled
returns-clause-settled c =
    let frame = frame_at c.args.maker.now.profile c.args.maker.now.base in
    let before = c.packets in
    sym (last_is frame before.batch.waiting before.walks before.invariant.within c.in_default.ensures) ∙ ap batch_of before.invariant.stem

pub returns-clause-calm : goal.returns-clause-calm
returns-clause-calm c = λ empty. none_is c.packets.walks c.in_default.ensures
