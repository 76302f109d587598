use Rattle.std.proofs.Common.{◌≡◌, ◌+◌, ◌*◌, ◌^◌, ◌<◌, ◌≤◌, ℕ, List, drop, length, length-drop, ◌∙◌, ap, arith, true, [], ◌∷◌, ◌++◌, rules}
use Rattle.trex_pcap.specs.Writing.{Packet, record_of}
use Rattle.trex_core.specs.declared.batch.TheConstants.{BATCH_PACKETS, BATCH_BYTES, RECORD_HEADER}
use Rattle.trex_core.specs.declared.waiting.Waiting.{Waiting}
use Rattle.trex_core.specs.Batches.{has_room_for}
use Rattle.trex_core.specs.Records.{AreBatch, BatchView, frame_with, frames_of}
use Rattle.trex_core.specs.Texts.{packet_at}
use Rattle.trex_vm.specs.Packet.{after_all, stamped}
use Rattle.trex_core.proofs.Records.{batch_long, batch_pushed, room}
use Rattle.trex_core.proofs.batch.Batch.push.Goals as goal

-- what a batch with room for a packet has: fewer packets than it may, and a text that is no longer than so
has_room : (base : ℕ) (ws : List Waiting) (text : List ℕ) (old : BatchView) (count : ℕ) → AreBatch base ws text
    → (let v : BatchView = record { base = base; waiting = frames_of ws text } in v) ≡ old → has_room_for old.waiting count ≡ true
    → (has_room_for (frames_of ws text) count ≡ true) × (length ws < BATCH_PACKETS) × (length text + (RECORD_HEADER + count) ≤ BATCH_BYTES + RECORD_HEADER * BATCH_PACKETS) × (count ≤ BATCH_BYTES)
has_room base ws text old count batch is has =
    let here : has_room_for (frames_of ws text) count ≡ true = ap (λ (v : BatchView). has_room_for v.waiting count) is ∙ has in
    let left = room (frames_of ws text) count here in
    let long = batch_long base ws text batch in
    (here, omega (arith, left.0, long.0), omega (arith, left.0, left.1, long.0, long.1), omega (arith, left.1))

pub add_record-requires-clause-room : goal.add_record-requires-clause-room
add_record-requires-clause-room c =
    let i = c.self.inside in
    let has = has_room i.base (drop i.taken i.packets.items) (drop i.from i.text.items) c.args.self.now (length c.args.front.now) c.self.invariant.0 c.self.view_is c.requires.room in
    omega (arith, has.2, length-drop i.from i.text.items, c.remove_front-2.ensures.len, c.remove_front-2.ensures.capacity, c.self.invariant.4)

pub invariant_of-self : goal.invariant_of-self
invariant_of-self c =
    let i = c.self.inside in
    let ws = drop i.taken i.packets.items in
    let ts = drop i.from i.text.items in
    let n = length c.args.front.now in
    let f = frame_with c.args.key (after_all c.args.values.now c.args.program.now.instrs (stamped c.args.stamp c.args.front.now)) in
    let has = has_room i.base ws ts c.args.self.now n c.self.invariant.0 c.self.view_is c.requires.room in
    let known : c.push.new.self.items ≡ ws ++ (let w : Waiting = record { key = c.args.key; length = n } in w) ∷ [] = search rules in
    let records : c.add_record.new.text.items ≡ ts ++ record_of (packet_at i.base f) =
    c.add_record.ensures.items
    ∙ ap (λ m. c.remove_front-2.new.items.items ++ record_of (let p : Packet = record { time = m * 10 ^ 9 + c.args.key.time; bytes = f.bytes } in p)) c.from.ensures
    ∙ ap (λ (t : List ℕ). t ++ record_of (packet_at i.base f)) c.remove_front-2.ensures.items in
    let pushed = batch_pushed i.base ws ts c.args.self.now f n c.push.new.self.items c.add_record.new.text.items c.self.invariant.0 c.self.view_is has.0 c.add_record.ensures.long known records in
    (pushed.0, omega arith, omega arith, omega arith, omega (arith, c.add_record.ensures.capacity, c.remove_front-2.ensures.capacity, c.self.invariant.4), omega arith)

pub returns : goal.returns
returns c =
    let i = c.self.inside in
    let ws = drop i.taken i.packets.items in
    let ts = drop i.from i.text.items in
    let n = length c.args.front.now in
    let f = frame_with c.args.key (after_all c.args.values.now c.args.program.now.instrs (stamped c.args.stamp c.args.front.now)) in
    let has = has_room i.base ws ts c.args.self.now n c.self.invariant.0 c.self.view_is c.requires.room in
    let known : c.push.new.self.items ≡ ws ++ (let w : Waiting = record { key = c.args.key; length = n } in w) ∷ [] = search rules in
    let records : c.add_record.new.text.items ≡ ts ++ record_of (packet_at i.base f) =
    c.add_record.ensures.items
    ∙ ap (λ m. c.remove_front-2.new.items.items ++ record_of (let p : Packet = record { time = m * 10 ^ 9 + c.args.key.time; bytes = f.bytes } in p)) c.from.ensures
    ∙ ap (λ (t : List ℕ). t ++ record_of (packet_at i.base f)) c.remove_front-2.ensures.items in
    let pushed = batch_pushed i.base ws ts c.args.self.now f n c.push.new.self.items c.add_record.new.text.items c.self.invariant.0 c.self.view_is has.0 c.add_record.ensures.long known records in
    pushed.1
