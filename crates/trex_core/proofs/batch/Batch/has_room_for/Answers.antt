use Rattle.std.proofs.Common.{◌≡◌, ◌-◌, ◌+◌, ◌*◌, ◌&&◌, nat_lt, nat_le, drop, length, length-drop, ap, ◌∙◌, subst, arith}
use Rattle.trex_core.specs.declared.batch.TheConstants.{BATCH_PACKETS, BATCH_BYTES, RECORD_HEADER}
use Rattle.trex_core.specs.Batches.{IsWithin, bytes_of, has_room_for}
use Rattle.trex_core.specs.Records.{BatchView, frames_of}
use Rattle.trex_core.proofs.Records.{batch_long}
use Rattle.trex_core.proofs.batch.Batch.has_room_for.Goals as goal

pub overflow_sub-text-2 : goal.overflow_sub-text-2
overflow_sub-text-2 c =
    let i = c.self.inside in
    let long = batch_long i.base (drop i.taken i.packets.items) (drop i.from i.text.items) c.self.invariant.0 in
    omega (arith, long.1, length-drop i.taken i.packets.items, length-drop i.from i.text.items)

pub is_room-requires : goal.is_room-requires
is_room-requires c =
    let i = c.self.inside in
    let long = batch_long i.base (drop i.taken i.packets.items) (drop i.from i.text.items) c.self.invariant.0 in
    omega (arith, long.1, c.self.invariant.0.within.bytes, length-drop i.taken i.packets.items, length-drop i.from i.text.items)

pub returns-clause-value : goal.returns-clause-value
returns-clause-value c =
    let i = c.self.inside in
    let ws = drop i.taken i.packets.items in
    let ts = drop i.from i.text.items in
    let long = batch_long i.base ws ts c.self.invariant.0 in
    let a : c.len.result - i.taken ≡ length (frames_of ws ts) = omega (arith, long.0, length-drop i.taken i.packets.items) in
    let b : (c.len-2.result - i.from) - RECORD_HEADER * (c.len.result - i.taken) ≡ bytes_of (frames_of ws ts) = omega (arith, long.0, long.1, length-drop i.taken i.packets.items, length-drop i.from i.text.items) in
    c.is_room.ensures
    ∙ ap (λ n. nat_lt n BATCH_PACKETS && nat_le ((c.len-2.result - i.from) - RECORD_HEADER * (c.len.result - i.taken) + c.args.count) BATCH_BYTES) a
    ∙ ap (λ n. nat_lt (length (frames_of ws ts)) BATCH_PACKETS && nat_le (n + c.args.count) BATCH_BYTES) b
    ∙ ap (λ (v : BatchView). has_room_for v.waiting c.args.count) c.self.view_is

pub returns-clause-within : goal.returns-clause-within
returns-clause-within c = subst (λ (v : BatchView). IsWithin v.waiting) c.self.view_is c.self.invariant.0.within
