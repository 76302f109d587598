use Rattle.std.proofs.Common.{ℕ, ◌-◌, ◌<◌, ◌++◌, ◌∷◌, [], List, get_or, length, map, sym, subst, ap, ◌∙◌, arith}
use Rattle.std.proofs.lemmas.List.{length-map}
use Rattle.std.specs.List.{slice_get}
use Rattle.trex_merge.specs.Frames.{Frame}
use Rattle.trex_merge.specs.Queues.{popped}
use Rattle.trex_merge.proofs.QueueLemmas.{packet_is_least}
use Rattle.trex_merge.proofs.FeedLemmas.{feed_waits, feed_within, map-at_place}
use Rattle.trex_stats.specs.Counts.{CountsFor}
use Rattle.trex_wire.specs.declared.lanes.Due.{Due}
use Rattle.trex_wire.specs.declared.merge.Lane.{Lane}
use Rattle.trex_wire.specs.Lanes.{AreOf, frame_at, key_in, lane_of, queue_of, seen_of}
use Rattle.trex_wire.specs.Wired.{seen_then}
use Rattle.trex_wire.proofs.MergeLemmas.{lane_first, of_first, of_set, timed_at}
use Rattle.trex_wire.proofs.merge.pass.Goals as goal

pub offset_bounds-lanes-feed : goal.offset_bounds-lanes-feed
offset_bounds-lanes-feed c =
    let least = packet_is_least (c.args.mill.now.limit - c.args.mill.now.sent) c.args.feed (map queue_of c.args.lanes.now) c.requires.next in
    let within = feed_within queue_of c.args.lanes.now c.args.feed (least.frame ∷ least.rest) least.there in
    omega (arith, within, c.requires.two)

pub bounds-lanes-feed : goal.bounds-lanes-feed
bounds-lanes-feed c =
    let least = packet_is_least (c.args.mill.now.limit - c.args.mill.now.sent) c.args.feed (map queue_of c.args.lanes.now) c.requires.next in
    feed_within queue_of c.args.lanes.now c.args.feed (least.frame ∷ least.rest) least.there

-- a lane of no copies
none : Lane
none = record { copy = 0; rest = record { ref_ptr = (0, 0); now = [] } }

pub take_first-time-requires : goal.take_first-time-requires
unfolding none
take_first-time-requires c =
    let least = packet_is_least (c.args.mill.now.limit - c.args.mill.now.sent) c.args.feed (map queue_of c.args.lanes.now) c.requires.next in
    let lane = get_or c.args.lanes.now c.args.feed none in
    let waits = feed_waits queue_of c.args.lanes.now c.args.feed none least.frame least.rest least.there in
    omega (arith, waits, length-map lane.rest.now (λ due. frame_at (key_in lane.copy due)))

pub returns-clause-counts : goal.returns-clause-counts
unfolding none
returns-clause-counts c rs ss are stood =
    let least = packet_is_least (c.args.mill.now.limit - c.args.mill.now.sent) c.args.feed (map queue_of c.args.lanes.now) c.requires.next in
    let within = feed_within queue_of c.args.lanes.now c.args.feed (least.frame ∷ least.rest) least.there in
    let lane = get_or c.args.lanes.now c.args.feed none in
    let due = c.take_first-time.result in
    let taken = c.take_first-time.ensures.rest in
    let are_of = subst (AreOf rs) taken (of_first rs c.args.lanes.now c.args.feed none within are) in
    let some : 0 < length lane.rest.now = omega (arith, ap length taken) in
    let first = lane_first c.args.lanes.now c.args.feed none due some within ∙ ap (λ (l : List Due). frame_at (key_in lane.copy (get_or l 0 due)) ∷ []) taken in
    let seen = seen_then due.time (slice_get rs due.place) in
    subst (λ (l : List Frame). CountsFor c.count.new.self (ss ++ map (seen_of rs) l)) (sym first)
    (c.in_ok-count.ensures.counts ss seen stood (timed_at due.time (slice_get rs due.place)) are_of.0)

pub returns-clause-queues : goal.returns-clause-queues
unfolding none
returns-clause-queues c =
    let new = c.take_first-time.new.self in
    let lane = get_or c.args.lanes.now c.args.feed none in
    map-at_place queue_of popped c.args.lanes.now c.args.feed none new
    (ap (λ (n : ℕ). lane_of n new.rest.now) c.take_first-time.ensures.copy ∙ sym (ap (λ (l : List Due). popped (lane_of lane.copy l)) c.take_first-time.ensures.rest))

pub returns-clause-kept : goal.returns-clause-kept
unfolding none
returns-clause-kept c rs are =
    let least = packet_is_least (c.args.mill.now.limit - c.args.mill.now.sent) c.args.feed (map queue_of c.args.lanes.now) c.requires.next in
    let within = feed_within queue_of c.args.lanes.now c.args.feed (least.frame ∷ least.rest) least.there in
    let are_of = subst (AreOf rs) c.take_first-time.ensures.rest (of_first rs c.args.lanes.now c.args.feed none within are) in
    of_set rs c.args.lanes.now c.args.feed c.take_first-time.new.self are_of.1 are
