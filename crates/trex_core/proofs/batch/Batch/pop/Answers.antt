use Rattle.std.proofs.Common.{◌≡◌, ◌+◌, ◌<◌, ℕ, suc, List, [], ◌∷◌, drop, take, get_or, length, length-drop, sym, ap, ◌∙◌, arith}
use Rattle.std.proofs.Math.Seq.{drop-cons}
use Rattle.trex_core.specs.declared.batch.TheConstants.{RECORD_HEADER}
use Rattle.trex_core.specs.declared.waiting.Waiting.{Waiting}
use Rattle.trex_merge.specs.Frames.{Frame}
use Rattle.trex_core.specs.Records.{BatchView, text_length}
use Rattle.trex_core.proofs.Records.{batch_behind, batch_long}
use Rattle.trex_core.proofs.batch.Batch.pop.Goals as goal

-- the first packet's record is all that is passed
one_passed : (packets : List Waiting) (taken : ℕ) (w : Waiting) → taken < length packets → w ≡ get_or packets taken w
    → RECORD_HEADER + w.length ≡ text_length (take 1 (drop taken packets))
one_passed packets taken w within is =
    let first : drop taken packets ≡ w ∷ drop (suc taken) packets = drop-cons packets taken w within ∙ ap (λ (x : Waiting). x ∷ drop (suc taken) packets) (sym is) in
    let one : text_length (w ∷ []) ≡ RECORD_HEADER + w.length = omega arith in
    sym one ∙ ap (λ (v : List Waiting). text_length (take 1 v)) (sym first)

pub invariant_of-self : goal.invariant_of-self
invariant_of-self c =
    let i = c.self.inside in
    let ws = drop i.taken i.packets.items in
    let ts = drop i.from i.text.items in
    let long = batch_long i.base ws ts c.self.invariant.0 in
    let some : i.taken < length i.packets.items = omega (arith, c.requires, long.0, length-drop i.taken i.packets.items, ap (λ (v : BatchView). length v.waiting) c.self.view_is) in
    let is = one_passed i.packets.items i.taken c.index.result.now some c.index.ensures in
    let e = batch_behind i.base i.taken i.from 1 (RECORD_HEADER + c.index.result.now.length) i.packets.items i.text.items c.self.invariant.0 is (omega arith) in
    (e.0, omega (arith, some), omega (arith, e.2), omega arith, omega arith, omega arith)

pub returns : goal.returns
returns c =
    let i = c.self.inside in
    let ws = drop i.taken i.packets.items in
    let ts = drop i.from i.text.items in
    let long = batch_long i.base ws ts c.self.invariant.0 in
    let some : i.taken < length i.packets.items = omega (arith, c.requires, long.0, length-drop i.taken i.packets.items, ap (λ (v : BatchView). length v.waiting) c.self.view_is) in
    let is = one_passed i.packets.items i.taken c.index.result.now some c.index.ensures in
    let e = batch_behind i.base i.taken i.from 1 (RECORD_HEADER + c.index.result.now.length) i.packets.items i.text.items c.self.invariant.0 is (omega arith) in
    ap (λ (fs : List Frame). let v : BatchView = record { base = i.base; waiting = fs } in v) e.1
    ∙ ap (λ (v : BatchView). let w : BatchView = record { base = v.base; waiting = drop 1 v.waiting } in w) c.self.view_is
