use Rattle.std.proofs.Common.{◌+◌, ◌<◌, ℕ, Some, List, drop, take, length, length-drop, slice_get, sym, ap, ◌∙◌, arith}
use Rattle.std.specs.Option.{option_map}
use Rattle.trex_merge.specs.Frames.{Frame}
use Rattle.trex_core.specs.declared.batch.TheConstants.{RECORD_HEADER}
use Rattle.trex_core.specs.Records.{BatchView}
use Rattle.trex_core.proofs.Records.{batch_long, head_is, rest_is}
use Rattle.trex_core.proofs.batch.Batch.first_bytes.Goals as goal

pub returns : goal.returns
returns c =
    let i = c.self.inside in
    let long = batch_long i.base (drop i.taken i.packets.items) (drop i.from i.text.items) c.self.invariant.0 in
    let some : i.taken < length i.packets.items = omega (arith, c.requires, long.0, length-drop i.taken i.packets.items, ap (λ (v : BatchView). length v.waiting) c.self.view_is) in
    let first = head_is i.base i.taken i.from i.packets.items i.text.items c.index.result.now c.self.invariant.0 some (omega arith) c.index.ensures in
    ap (λ (t : List ℕ). Some (take c.index.result.now.length t)) (rest_is c.deref.result.now i.text.items (i.from + RECORD_HEADER) c.deref.ensures.value)
    ∙ sym (ap (option_map (λ (f : Frame). f.bytes)) first.1) ∙ ap (λ (v : BatchView). option_map (λ (f : Frame). f.bytes) (slice_get v.waiting 0)) c.self.view_is

pub slice_bounds-text-count : goal.slice_bounds-text-count
slice_bounds-text-count c =
    let i = c.self.inside in
    let long = batch_long i.base (drop i.taken i.packets.items) (drop i.from i.text.items) c.self.invariant.0 in
    let some : i.taken < length i.packets.items = omega (arith, c.requires, long.0, length-drop i.taken i.packets.items, ap (λ (v : BatchView). length v.waiting) c.self.view_is) in
    let first = head_is i.base i.taken i.from i.packets.items i.text.items c.index.result.now c.self.invariant.0 some (omega arith) c.index.ensures in
    omega (arith, first.0, ap length c.deref.ensures.value)

pub slice_bounds-text-start : goal.slice_bounds-text-start
slice_bounds-text-start c =
    let i = c.self.inside in
    let long = batch_long i.base (drop i.taken i.packets.items) (drop i.from i.text.items) c.self.invariant.0 in
    let some : i.taken < length i.packets.items = omega (arith, c.requires, long.0, length-drop i.taken i.packets.items, ap (λ (v : BatchView). length v.waiting) c.self.view_is) in
    let first = head_is i.base i.taken i.from i.packets.items i.text.items c.index.result.now c.self.invariant.0 some (omega arith) c.index.ensures in
    omega (arith, first.0, ap length c.deref.ensures.value)
