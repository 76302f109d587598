use Rattle.std.proofs.Common.{◌≡◌, ◌-◌, drop, take, map, length, sym, ap, ◌∙◌, arith}
use Rattle.std.proofs.lemmas.List.{length-take-le}
use Rattle.trex_merge.specs.Runs.{run_length}
use Rattle.trex_core.specs.Records.{BatchView, text_length, waiting_of}
use Rattle.trex_core.specs.Texts.{records_text}
use Rattle.trex_core.proofs.Records.{batch_long, first_records_of, rest_is}
use Rattle.trex_core.proofs.RunLemmas.{run_is}
use Rattle.trex_core.proofs.batch.Batch.run_before.Goals as goal

pub measure_run-count-requires : goal.measure_run-count-requires
measure_run-count-requires c =
    let i = c.self.inside in
    let ws = drop i.taken i.packets.items in
    let ts = drop i.from i.text.items in
    let front : c.front_of-packets.result.now ≡ take c.args.most ws =
    c.front_of-packets.ensures ∙ ap (take c.args.most) (rest_is c.deref.result.now i.packets.items i.taken c.deref.ensures.value) in
    let long = batch_long i.base ws ts c.self.invariant.0 in
    let first = first_records_of i.base c.args.most ws ts c.self.invariant.0 in
    omega (arith, ap text_length front, first.1, long.0, long.1, c.self.invariant.0.within.bytes, c.self.invariant.0.within.packets)

pub slice_bounds-result-end-2 : goal.slice_bounds-result-end-2
slice_bounds-result-end-2 c =
    let i = c.self.inside in
    let ws = drop i.taken i.packets.items in
    let ts = drop i.from i.text.items in
    let bytes = c.measure_run-count.result.1 in
    let front : c.front_of-packets.result.now ≡ take c.args.most ws =
    c.front_of-packets.ensures ∙ ap (take c.args.most) (rest_is c.deref.result.now i.packets.items i.taken c.deref.ensures.value) in
    let measured = c.measure_run-count.ensures in
    let found = run_is i.base ws c.front_of-packets.result.now ts c.args.before c.args.most c.measure_run-count.result.0 bytes c.self.invariant.0 front
    measured.packets measured.within measured.bytes in
    let rest = take (length c.deref-2.result.now - i.from) (drop i.from c.deref-2.result.now) in
    let same : rest ≡ ts = rest_is c.deref-2.result.now i.text.items i.from c.deref-2.ensures.value in
    sym (length-take-le bytes rest (omega (arith, found.within, ap length same)))

pub returns-clause-packets : goal.returns-clause-packets
returns-clause-packets c =
    let i = c.self.inside in
    let ws = drop i.taken i.packets.items in
    let ts = drop i.from i.text.items in
    let bytes = c.measure_run-count.result.1 in
    let front : c.front_of-packets.result.now ≡ take c.args.most ws =
    c.front_of-packets.ensures ∙ ap (take c.args.most) (rest_is c.deref.result.now i.packets.items i.taken c.deref.ensures.value) in
    let measured = c.measure_run-count.ensures in
    let found = run_is i.base ws c.front_of-packets.result.now ts c.args.before c.args.most c.measure_run-count.result.0 bytes c.self.invariant.0 front
    measured.packets measured.within measured.bytes in
    found.packets ∙ ap (λ (v : BatchView). map waiting_of (take (run_length c.args.before c.args.most v.waiting) v.waiting)) c.self.view_is

pub returns-clause-text : goal.returns-clause-text
returns-clause-text c =
    let i = c.self.inside in
    let ws = drop i.taken i.packets.items in
    let ts = drop i.from i.text.items in
    let bytes = c.measure_run-count.result.1 in
    let front : c.front_of-packets.result.now ≡ take c.args.most ws =
    c.front_of-packets.ensures ∙ ap (take c.args.most) (rest_is c.deref.result.now i.packets.items i.taken c.deref.ensures.value) in
    let measured = c.measure_run-count.ensures in
    let found = run_is i.base ws c.front_of-packets.result.now ts c.args.before c.args.most c.measure_run-count.result.0 bytes c.self.invariant.0 front
    measured.packets measured.within measured.bytes in
    ap (take bytes) (rest_is c.deref-2.result.now i.text.items i.from c.deref-2.ensures.value) ∙ found.joined
    ∙ ap (λ (v : BatchView). records_text v.base (take (run_length c.args.before c.args.most v.waiting) v.waiting)) c.self.view_is
