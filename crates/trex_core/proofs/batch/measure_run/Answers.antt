use Rattle.std.proofs.Common.{◌≡◌, ◌+◌, get_or, length, take, sym, ap, ◌∙◌, arith}
use Rattle.std.proofs.lemmas.List.{take_more}
use Rattle.std.proofs.lemmas.List.Sums.{sum_by_push}
use Rattle.trex_core.specs.declared.batch.TheConstants.{RECORD_HEADER}
use Rattle.trex_core.specs.declared.waiting.Waiting.{Waiting}
use Rattle.trex_core.specs.Records.{text_length, waiting_of}
use Rattle.trex_core.proofs.RunLemmas.{counted_all, counted_more, counted_stops, no_frame}
use Rattle.trex_core.proofs.batch.measure_run.Goals as goal

pub loop-packet-preserved : goal.loop-packet-preserved
loop-packet-preserved c =
    let ws = c.args.packets.now in
    let k = c.loop-packet.packet-index in
    let w = get_or ws k (waiting_of no_frame) in
    let before = c.loop-packet.invariant in
    let more : text_length (take (k + 1) ws) ≡ text_length (take k ws) + (RECORD_HEADER + w.length) =
    ap text_length (take_more ws k (waiting_of no_frame) c.loop-packet-test.true) ∙ sum_by_push (λ (v : Waiting). RECORD_HEADER + v.length) (take k ws) w in
    record {
      counted = counted_more c.args.before (length ws) k ws before.counted c.loop-packet-test.true c.loop-packet-test.true (sym c.stands_before.ensures ∙ c.if-not-stands_before.false);
      count = omega (arith, before.count);
      bytes = omega (arith, before.bytes, more);
    }

pub returns-then-not-stands_before-clause-packets : goal.returns-then-not-stands_before-clause-packets
returns-then-not-stands_before-clause-packets c = λ frames known.
    let ws = c.args.packets.now in
    let k = c.loop-packet.packet-index in
    c.loop-packet.invariant.count
    ∙ counted_stops c.args.before (length ws) k ws c.loop-packet.invariant.counted c.loop-packet-test.true c.loop-packet-test.true (sym c.stands_before.ensures ∙ c.if-not-stands_before.true) frames known

pub returns-clause-packets : goal.returns-clause-packets
returns-clause-packets c = λ frames known.
    let ws = c.args.packets.now in
    let k = c.loop-packet.packet-index in
    c.loop-packet.invariant.count ∙ counted_all c.args.before (length ws) k ws c.loop-packet.invariant.counted c.loop-packet-test.false frames known
