use Rattle.std.proofs.Common.{◌≡◌, ◌+◌, length, refl, sym, ap, ◌∙◌, subst, arith}
use Rattle.std.proofs.lemmas.List.Sorted.{length_permutation}
use Rattle.trex_stats.specs.Counts.{CountsFor, StandsFor, stamped_of}
use Rattle.trex_wire.specs.declared.spec.WireCounts.{WireCounts}
use Rattle.trex_wire.specs.Sent.{Carries, Sent}
use Rattle.trex_wire.specs.Wired.{bytes_of, wire_counts, wired}
use Rattle.trex_wire.proofs.CountLemmas.{lanes_arrive, lanes_short, nothing_lost, stands_whole}
use Rattle.trex_wire.proofs.LaneLemmas.{are_moved, both_distinct, lane_distinct, lane_of_moved, wired_stamped}
use Rattle.trex_wire.proofs.StepLemmas.{few_copies}
use Rattle.trex_wire.proofs.wire.Wire.measure.Goals as goal

pub overflow_add-counts : goal.overflow_add-counts
overflow_add-counts c =
    let w = c.self.inside in
    omega (
      arith,
      c.len.ensures,
      c.len-2.ensures,
      c.sort_lane.new.lane.ok.0,
      c.sort_lane-2.new.lane.ok.0,
      length_permutation w.lanes.first.items _ c.sort_lane.ensures.permutation,
      length_permutation w.lanes.second.items _ c.sort_lane-2.ensures.permutation,
      few_copies _ c.self.invariant.3.0 c.self.invariant.3.1,
      c.self.invariant.1,
    )

pub merge-requires-clause-few : goal.merge-requires-clause-few
merge-requires-clause-few c =
    let w = c.self.inside in
    let rs = c.self.invariant.3.0 in
    let held = c.self.invariant.3.1 in
    let lanes = are_moved w.ask rs _ _ _ _ c.deref.result.now c.deref-2.result.now held.first held.second
    c.sort_lane.ensures.permutation c.sort_lane-2.ensures.permutation c.deref.ensures.value c.deref-2.ensures.value in
    omega (arith, lanes_short w.ask rs c.deref.result.now c.deref-2.result.now lanes, held.sent, c.self.invariant.1)

pub merge-requires-clause-distinct : goal.merge-requires-clause-distinct
merge-requires-clause-distinct c =
    let rs = c.self.invariant.3.0 in
    let held = c.self.invariant.3.1 in
    both_distinct c.self.inside.ask rs c.deref.result.now c.deref-2.result.now
    (are_moved c.self.inside.ask rs _ _ _ _ c.deref.result.now c.deref-2.result.now held.first held.second
    c.sort_lane.ensures.permutation c.sort_lane-2.ensures.permutation c.deref.ensures.value c.deref-2.ensures.value)

pub merge-requires-clause-first : goal.merge-requires-clause-first
merge-requires-clause-first c =
    rw c.deref.ensures.value (c.sort_lane.ensures.rising 0 (rw c.self.invariant.3.1.first (lane_distinct c.self.inside.ask 0 0 0 c.self.invariant.3.0)))

pub merge-requires-clause-second : goal.merge-requires-clause-second
merge-requires-clause-second c =
    rw c.deref-2.ensures.value (c.sort_lane-2.ensures.rising 1 (rw c.self.invariant.3.1.second (lane_distinct c.self.inside.ask 1 1 0 c.self.invariant.3.0)))

pub add_plain-requires : goal.add_plain-requires
add_plain-requires c =
    let w = c.self.inside in
    let rs = c.self.invariant.3.0 in
    let held = c.self.invariant.3.1 in
    let lanes = are_moved w.ask rs _ _ _ _ c.deref.result.now c.deref-2.result.now held.first held.second
    c.sort_lane.ensures.permutation c.sort_lane-2.ensures.permutation c.deref.ensures.value c.deref-2.ensures.value in
    omega (arith, c.in_ok-stats.ensures.records, lanes_short w.ask rs c.deref.result.now c.deref-2.result.now lanes, held.sent, held.plain, c.self.invariant.1)

pub add_bytes-requires : goal.add_bytes-requires
add_bytes-requires c =
    let w = c.self.inside in
    omega (
      arith,
      c.in_ok-stats.ensures.bytes,
      c.in_ok-stats.ensures.records,
      c.add_plain.ensures.bytes,
      c.add_plain.ensures.records,
      ap length c.deref.ensures.value,
      ap length c.deref-2.ensures.value,
      length_permutation w.lanes.first.items _ c.sort_lane.ensures.permutation,
      length_permutation w.lanes.second.items _ c.sort_lane-2.ensures.permutation,
      c.self.invariant.2,
    )

pub returns-clause-stands : goal.returns-clause-stands
returns-clause-stands c rs carries =
    let w = c.self.inside in
    let held = subst (λ (s : Sent). Carries s rs) (sym c.self.view_is) carries in
    let first = c.deref.result.now in
    let second = c.deref-2.result.now in
    let lanes = are_moved w.ask rs _ _ _ _ first second held.first held.second
    c.sort_lane.ensures.permutation c.sort_lane-2.ensures.permutation c.deref.ensures.value c.deref-2.ensures.value in
    let stamped : CountsFor c.in_ok-stats.stats (stamped_of (wired rs w.ask)) =
    subst (CountsFor c.in_ok-stats.stats) (wired_stamped w.ask rs first second lanes)
    (c.in_ok-stats.ensures.counts rs (lane_of_moved w.ask rs 0 first lanes.moved) (lane_of_moved w.ask rs 1 second lanes.again)) in
    let counts = c.add_plain.ensures.counts (wired rs w.ask) stamped (omega (arith, c.in_ok-stats.ensures.records, lanes_arrive w.ask rs first second lanes, held.plain)) in
    let added = c.add_bytes.ensures in
    let bytes : c.add_bytes.new.self.bytes ≡ bytes_of w.ask 0 rs = omega (arith, added.bytes, c.add_plain.ensures.bytes, c.in_ok-stats.ensures.bytes, held.bytes) in
    let stands = stands_whole w.ask rs c.add_plain.new.self c.add_bytes.new.self counts added.records added.stamped added.flows bytes in
    subst (λ (s : Sent). StandsFor c.add_bytes.new.self (wired rs s.ask)) c.self.view_is stands

pub returns-clause-counts : goal.returns-clause-counts
returns-clause-counts c rs carries =
    let w = c.self.inside in
    let held = subst (λ (s : Sent). Carries s rs) (sym c.self.view_is) carries in
    let lanes = are_moved w.ask rs _ _ _ _ c.deref.result.now c.deref-2.result.now held.first held.second
    c.sort_lane.ensures.permutation c.sort_lane-2.ensures.permutation c.deref.ensures.value c.deref-2.ensures.value in
    let arrived : c.len.result + c.len-2.result + w.lanes.plain ≡ length (wired rs w.ask) =
    omega (arith, c.len.ensures, c.len-2.ensures, c.deref.ensures.len, c.deref-2.ensures.len, held.plain, lanes_arrive w.ask rs c.deref.result.now c.deref-2.result.now lanes) in
    let counts : WireCounts = record { sent = c.from.result; lost = w.lanes.lost; copied = w.lanes.copied; arrived = c.len.result + c.len-2.result + w.lanes.plain } in
    let sent : c.from.result ≡ length rs = c.from.ensures ∙ held.sent in
    let same : counts ≡ wire_counts rs w.ask = rw (sent, held.lost, held.copied, arrived) refl in
    subst (λ (s : Sent). counts ≡ wire_counts rs s.ask) c.self.view_is same

pub returns-clause-conserved : goal.returns-clause-conserved
returns-clause-conserved c =
    let w = c.self.inside in
    let rs = c.self.invariant.3.0 in
    let held = c.self.invariant.3.1 in
    let lanes = are_moved w.ask rs _ _ _ _ c.deref.result.now c.deref-2.result.now held.first held.second
    c.sort_lane.ensures.permutation c.sort_lane-2.ensures.permutation c.deref.ensures.value c.deref-2.ensures.value in
    omega (
      arith,
      c.len.ensures,
      c.len-2.ensures,
      c.deref.ensures.len,
      c.deref-2.ensures.len,
      lanes_arrive w.ask rs c.deref.result.now c.deref-2.result.now lanes,
      nothing_lost w.ask rs,
      c.from.ensures,
      held.sent,
      held.plain,
      held.lost,
      held.copied,
    )
