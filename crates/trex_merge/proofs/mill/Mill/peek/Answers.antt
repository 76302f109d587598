use Rattle.std.proofs.Common.{◌∙◌, Some, map, sym, ap}
use Rattle.trex_merge.specs.declared.key.Key.{Key}
use Rattle.trex_merge.specs.Frames.{frame_of, key_of}
use Rattle.trex_merge.specs.Heads.{earlier_of, least_from}
use Rattle.trex_merge.specs.Queues.{all_waiting, needy_from}
use Rattle.trex_merge.proofs.FeedLemmas.{earlier_none, feed_passed, finished_served, none_waits_at, waits, waits_at}
use Rattle.trex_merge.proofs.mill.Mill.peek.Goals as goal
use Rattle.trex_merge.proofs.mill.Mill.peek.Goals.{in-Some, in-None+else-not-finished}

pub loop-at-preserved : goal.loop-at-preserved
loop-at-preserved g c =
    let queue = g.F.Feed.queue in
    let feeds = c.args.feeds.now in
    let at = c.loop-at.at in
    let best = c.loop-at.best in
    let mine = queue c.index-feeds-at.result in
    let passed = feed_passed queue feeds at c.index-feeds-at.result best c.match-head.best (needy_from 0 (map queue feeds))
    (least_from key_of 0 (all_waiting (map queue feeds))) c.loop-at-test.true c.index-feeds-at.is in
    elim c.match-head.branch [
      | in-Some w ↦
          let first = w.in-Some.ensures in
          passed (waits mine (frame_of w.in-Some.head) first)
          (w.best-is
          ∙ w.earlier.ensures
          ∙ ap (λ (k : Key). earlier_of best (Some (record { key = k; feed = at }))) w.key.ensures
          ∙ ap (earlier_of best) (sym (waits_at at mine.waiting (frame_of w.in-Some.head) first)))
          c.loop-at.invariant
      | in-None+else-not-finished w ↦
          passed (finished_served mine (sym w.finished.ensures ∙ w.if-not-finished.false))
          (w.best-is ∙ sym (earlier_none best) ∙ ap (earlier_of best) (sym (none_waits_at at mine.waiting w.in-None.ensures)))
          c.loop-at.invariant
    ]
