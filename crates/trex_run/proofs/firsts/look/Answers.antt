use Rattle.std.proofs.Common.{◌≡◌, ◌+◌, ◌<◌, ◌∙◌, arith, map, subst, sym}
use Rattle.trex_merge.specs.Runs.{IsLeastElsewhere}
use Rattle.trex_run.proofs.LookLemmas.{HasSeen, as_long, sees_finished, sees_needy, sees_earlier, sees_later, seen_elsewhere}
use Rattle.trex_run.proofs.firsts.look.Goals as goal
use Rattle.trex_run.proofs.firsts.look.Goals.{in-Some+then-stands_before, in-Some+else-stands_before, in-None+else-not-finished}

pub returns-then-not-finished-clause-next : goal.returns-then-not-finished-clause-next
returns-then-not-finished-clause-next g c =
    let left = c.args.left in
    let some : 0 < left = omega (arith, c.if-left-eq0.false) in
    sees_needy g.F.Feed.queue left c.args.feeds.now c.args.firsts.now c.loop-at.at c.loop-at.lead c.index-feeds-at.result c.requires.firsts c.loop-at-test.true
    c.in-None.is c.index-feeds-at.is (sym c.finished.ensures ∙ c.if-not-finished.true) some c.loop-at.invariant

pub loop-at-preserved : goal.loop-at-preserved
loop-at-preserved g c =
    let queue = g.F.Feed.queue in
    let feeds = c.args.feeds.now in
    let firsts = c.args.firsts.now in
    let at = c.loop-at.at in
    let lead = c.loop-at.lead in
    elim c.match-first.branch [
      | in-Some+then-stands_before w ↦
          subst (HasSeen queue feeds (at + 1)) (sym (w.lead-is ∙ w.led-lead.ensures))
          (sees_earlier queue feeds firsts at lead w.in-Some.key c.requires.firsts c.loop-at-test.true w.in-Some.is c.loop-at.invariant
          (sym w.stands_before.ensures ∙ w.if-stands_before.true))
      | in-Some+else-stands_before w ↦
          subst (HasSeen queue feeds (at + 1)) (sym w.lead-is)
          (sees_later queue feeds firsts at lead w.in-Some.key c.requires.firsts c.loop-at-test.true w.in-Some.is c.loop-at.invariant
          (sym w.stands_before.ensures ∙ w.if-stands_before.false))
      | in-None+else-not-finished w ↦
          subst (HasSeen queue feeds (at + 1)) (sym w.lead-is)
          (sees_finished queue feeds firsts at lead w.index-feeds-at.result c.requires.firsts c.loop-at-test.true w.in-None.is w.index-feeds-at.is
          (sym w.finished.ensures ∙ w.if-not-finished.false) c.loop-at.invariant)
    ]

pub returns-in-Some-least-clause-bound : goal.returns-in-Some-least-clause-bound
returns-in-Some-least-clause-bound g c = λ at same.
    let here : c.loop-at.lead.feed ≡ at = cc in
    let long = as_long g.F.Feed.queue c.args.feeds.now c.args.firsts.now c.requires.firsts in
    let over = c.loop-at-test.false in
    subst (λ n. IsLeastElsewhere n c.loop-at.lead.before (map g.F.Feed.queue c.args.feeds.now)) here
    (seen_elsewhere g.F.Feed.queue c.args.feeds.now c.loop-at.at c.loop-at.lead (omega (arith, long, over)) c.loop-at.invariant)
