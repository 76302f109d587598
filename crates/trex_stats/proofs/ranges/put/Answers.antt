-- The range that the number makes goes in first, and then the one that it was joined with goes out.
use Rattle.std.proofs.Common.{◌<◌, ◌≤◌, arith}
use Rattle.trex_stats.proofs.Spans.{put_alone, put_joined}
use Rattle.trex_stats.specs.Ranges.{joined_after}
use Rattle.trex_stats.proofs.ranges.put.Goals as goal

pub returns-then-last-number-clause-ok : goal.returns-then-last-number-clause-ok
returns-then-last-number-clause-ok c =
    let rs = c.args.ranges.now.entries in
    let number = c.args.number in
    let last = c.last_of-last.ensures in
    let first = c.first_of-first.ensures in
    let joined : number < joined_after rs number = rw last at c.if-last-number.true in
    rw (c.remove.ensures.entries, c.in-Ok.ensures.entries, last, first)
    (put_joined rs number c.args.below c.requires.ascend c.requires.below c.requires.out (omega arith) joined)

pub returns-else-last-number-clause-ok : goal.returns-else-last-number-clause-ok
returns-else-last-number-clause-ok c =
    let rs = c.args.ranges.now.entries in
    let number = c.args.number in
    let last = c.last_of-last.ensures in
    let first = c.first_of-first.ensures in
    let alone : joined_after rs number ≤ number = rw last at c.if-last-number.false in
    rw (c.in-Ok.ensures.entries, last, first)
    (put_alone rs number c.args.below c.requires.ascend c.requires.below c.requires.out (omega arith) alone)
