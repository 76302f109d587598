use Rattle.std.proofs.Common.{◌≡◌, map, drop}
use Rattle.trex_merge.specs.Frames.{key_of}
use Rattle.trex_merge.specs.Heads.{earlier_of, least_from}
use Rattle.trex_merge.specs.Queues.{all_waiting, needy_from}
use Rattle.trex_merge.proofs.mill.Mill.peek.Given as goal

-- No core before this one has to be waited for, and the least of all is the best so far or one of the rest.
abbrev pub invariant-loop-at : goal.invariant-loop-at
invariant-loop-at g l =
    (needy_from l.at (map g.F.Feed.queue (drop l.at l.feeds)) ≡ needy_from 0 (map g.F.Feed.queue l.feeds))
    × (earlier_of l.best (least_from key_of l.at (all_waiting (map g.F.Feed.queue (drop l.at l.feeds)))) ≡ least_from key_of 0 (all_waiting (map g.F.Feed.queue l.feeds)))
