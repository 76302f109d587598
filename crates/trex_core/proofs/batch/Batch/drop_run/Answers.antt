use Rattle.std.proofs.Common.{◌≡◌, ◌≤◌, List, drop, take, length, length-drop, sym, ap, ◌∙◌, arith}
use Rattle.trex_merge.specs.Frames.{Frame}
use Rattle.trex_core.specs.Records.{BatchView, text_length}
use Rattle.trex_core.specs.Texts.{records_text}
use Rattle.trex_core.proofs.Records.{batch_behind, batch_long, length-first_records}
use Rattle.trex_core.proofs.batch.Batch.drop_run.Goals as goal

pub invariant_of-self : goal.invariant_of-self
invariant_of-self c =
    let i = c.self.inside in
    let ws = drop i.taken i.packets.items in
    let ts = drop i.from i.text.items in
    let long = batch_long i.base ws ts c.self.invariant.0 in
    let is : c.args.bytes ≡ text_length (take c.args.packets ws) =
    c.requires.bytes ∙ ap (λ (v : BatchView). length (records_text v.base (take c.args.packets v.waiting))) (sym c.self.view_is)
    ∙ sym (length-first_records i.base c.args.packets ws ts c.self.invariant.0) in
    let e = batch_behind i.base i.taken i.from c.args.packets c.args.bytes i.packets.items i.text.items c.self.invariant.0 is (omega arith) in
    let few : c.args.packets ≤ length ws = omega (arith, c.requires.packets, long.0, ap (λ (v : BatchView). length v.waiting) c.self.view_is) in
    (e.0, omega (arith, few, length-drop i.taken i.packets.items), omega (arith, e.2), omega arith, omega arith, omega arith)

pub overflow_add-self-2 : goal.overflow_add-self-2
overflow_add-self-2 c =
    let i = c.self.inside in
    let ws = drop i.taken i.packets.items in
    let ts = drop i.from i.text.items in
    let is : c.args.bytes ≡ text_length (take c.args.packets ws) =
    c.requires.bytes ∙ ap (λ (v : BatchView). length (records_text v.base (take c.args.packets v.waiting))) (sym c.self.view_is)
    ∙ sym (length-first_records i.base c.args.packets ws ts c.self.invariant.0) in
    let e = batch_behind i.base i.taken i.from c.args.packets c.args.bytes i.packets.items i.text.items c.self.invariant.0 is (omega arith) in
    omega (arith, e.2)

pub returns : goal.returns
returns c =
    let i = c.self.inside in
    let ws = drop i.taken i.packets.items in
    let ts = drop i.from i.text.items in
    let is : c.args.bytes ≡ text_length (take c.args.packets ws) =
    c.requires.bytes ∙ ap (λ (v : BatchView). length (records_text v.base (take c.args.packets v.waiting))) (sym c.self.view_is)
    ∙ sym (length-first_records i.base c.args.packets ws ts c.self.invariant.0) in
    let e = batch_behind i.base i.taken i.from c.args.packets c.args.bytes i.packets.items i.text.items c.self.invariant.0 is (omega arith) in
    ap (λ (fs : List Frame). let v : BatchView = record { base = i.base; waiting = fs } in v) e.1
    ∙ ap (λ (v : BatchView). let w : BatchView = record { base = v.base; waiting = drop c.args.packets v.waiting } in w) c.self.view_is
