use Rattle.std.proofs.Common.{◌≡◌, ◌≤◌, ◌==◌, List, length, map, take, Option, None, IfSome, ap, subst, ◌∙◌, arith}
use Rattle.std.proofs.lemmas.List.{length-map, length-take}
use Rattle.std.proofs.lemmas.List.Sums.{count_by-le-length, length-filter}
use Rattle.trex_core.specs.Plan.{frame_at, schedule}
use Rattle.trex_io.specs.Seen.{Seen}
use Rattle.trex_pcap.specs.Reading.{IsCapture}
use Rattle.trex_pcap.specs.Writing.{capture_of}
use Rattle.trex_profile.specs.Packets.{EndsInStamp}
use Rattle.trex_profile.specs.declared.flow.Flow.{Flow}
use Rattle.trex_profile.specs.Flow.{IsFlow}
use Rattle.trex_profile.specs.Stream.{Stream}
use Rattle.trex_sched.specs.Numbers.{AreNumbered, of_stream}
use Rattle.trex_sched.proofs.RunLemmas.{all_get}
use Rattle.trex_stats.specs.Counts.{arrivals}
use Rattle.trex_stats.specs.Laws.{clean_line}
use Rattle.trex_core.specs.Texts.{packet_at}
use Rattle.trex_run.specs.Capture.{sequence}
use Rattle.trex_run.proofs.CleanLemmas.{all_fit, as_sent, early_take, numbered_take, record_of, records_of}
use Rattle.trex_run.proofs.laws.runs_measure_clean.Goals as goal

pub returns : goal.returns
unfolding sequence schedule
returns c ask position flow s ranges at is alone =
    let p = c.args.profile.now in
    let base = ask.base in
    let all = schedule p ask.duration in
    let slots = take ask.limit all in
    let packets = map (packet_at base) (map (frame_at p base) slots) in
    let kept = c.len-streams.ensures.kept in
    let most = ranges.limit in
    let low = ranges.base in
    let few : length slots ≤ ask.limit = omega (arith, length-take ask.limit all) in
    let part : length (of_stream position slots) ≤ length slots =
    (let count = length-filter (λ slot. slot.stream == position) slots in let less = count_by-le-length (λ slot. slot.stream == position) slots in omega (arith, count, less)) in
    let early = early_take p base ask.duration ask.limit all ranges.duration (c.plans_rise.ensures.below (record { profile = p; duration = ask.duration; base = base })) in
    let numbered : AreNumbered 0 (of_stream position slots) =
    numbered_take ask.limit position 0 all (c.numbers_follow.ensures.chains _ ask.duration position (c.profiles_can_be_walked.ensures.walkable p kept) (c.profiles_can_be_walked.ensures.distinct p kept)) in
    let HasFlow : Stream → Type 0 = λ s. IfSome s.flow IsFlow in
    let flow_is : IsFlow flow = subst (λ (o : Option Flow). IfSome o IsFlow) is (all_get HasFlow p position s c.len-streams.ensures.flows at) in
    let ends : EndsInStamp s = all_get EndsInStamp p position s c.len-streams.ensures.stamped at in
    let sent = as_sent p base position flow 0 s slots c.stamps_are_found.ensures at is flow_is ends low early alone numbered (omega arith) in
    let long : length packets ≡ length slots = length-map (map (frame_at p base) slots) (packet_at base) ∙ length-map slots (frame_at p base) in
    let reads = c.reads_back.ensures packets (all_fit p base slots c.len-streams.ensures.short low early) (omega arith) in
    let line = c.measures_clean.ensures flow.number (arrivals (map (record_of p base) slots) flow.number) sent.0 in (
      map (record_of p base) slots,
      subst (λ (rs : List Seen). IsCapture (capture_of packets) rs None) (records_of p base slots) reads,
      line ∙ ap (clean_line flow.number) sent.1,
    )
