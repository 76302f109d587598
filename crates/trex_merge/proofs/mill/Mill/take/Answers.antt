use Rattle.std.proofs.Common.{◌-◌, ◌<◌, length, map, rules}
use Rattle.std.proofs.Math.Seq.{map-set_same}
use Rattle.trex_merge.specs.Queues.{popped}
use Rattle.trex_merge.proofs.QueueLemmas.{packet_is_least}
use Rattle.trex_merge.proofs.FeedLemmas.{feed_waits, feed_within, map-at_place, slice_get-set_other}
use Rattle.trex_merge.proofs.mill.Mill.take.Goals as goal

pub offset_bounds-feeds-feed : goal.offset_bounds-feeds-feed
offset_bounds-feeds-feed g c =
    let mill = c.args.self.now in
    let feeds = c.args.feeds.now in
    let chosen = packet_is_least (mill.limit - mill.sent) c.args.feed (map g.F.Feed.queue feeds) c.requires in
    let within : c.args.feed < length feeds = feed_within g.F.Feed.queue feeds c.args.feed _ chosen.there in
    search rules

pub bounds-feeds-feed : goal.bounds-feeds-feed
bounds-feeds-feed g c =
    let mill = c.args.self.now in
    let feeds = c.args.feeds.now in
    let chosen = packet_is_least (mill.limit - mill.sent) c.args.feed (map g.F.Feed.queue feeds) c.requires in
    feed_within g.F.Feed.queue feeds c.args.feed _ chosen.there

pub pop-requires : goal.pop-requires
pop-requires g c =
    let mill = c.args.self.now in
    let feeds = c.args.feeds.now in
    let chosen = packet_is_least (mill.limit - mill.sent) c.args.feed (map g.F.Feed.queue feeds) c.requires in
    feed_waits g.F.Feed.queue feeds c.args.feed c.index-feeds-feed.result chosen.frame chosen.rest chosen.there

pub returns-clause-queues : goal.returns-clause-queues
returns-clause-queues g c = map-at_place g.F.Feed.queue popped c.args.feeds.now c.args.feed c.index-feeds-feed.result c.pop.new.self c.pop.ensures.queue

pub returns-clause-others : goal.returns-clause-others
returns-clause-others g c = λ k other. slice_get-set_other c.args.feeds.now c.args.feed k c.pop.new.self other

pub returns-clause-marks : goal.returns-clause-marks
returns-clause-marks g c = map-set_same g.F.Feed.mark c.args.feeds.now c.args.feed c.pop.new.self c.index-feeds-feed.result c.pop.ensures.mark
