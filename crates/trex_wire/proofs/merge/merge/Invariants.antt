use Rattle.std.proofs.Common.{◌≡◌, ◌+◌, ◌-◌, List, length, map}
use Rattle.trex_io.specs.Seen.{Seen}
use Rattle.trex_wire.specs.Lanes.{AreOf, LanesAreOf, both, frame_at, queue_of}
use Rattle.trex_wire.proofs.MergeLemmas.{IsAt}
use Rattle.trex_wire.proofs.merge.merge.Given as goal

abbrev pub invariant-sent : goal.invariant-sent
invariant-sent l = record {
  limit : l.mill.limit ≡ length l.fn.first + length l.fn.second;
  two : length l.lanes ≡ 2;
  at : IsAt (map frame_at (both l.fn.first l.fn.second)) (λ rs. AreOf rs l.fn.first × AreOf rs l.fn.second) (map queue_of l.lanes) l.mill.sent l.mill.limit l.stats;
  kept : (rs : List Seen) → AreOf rs l.fn.first × AreOf rs l.fn.second → LanesAreOf rs l.lanes;
}

abbrev pub decreases-sent : goal.decreases-sent
decreases-sent l = l.mill.limit - l.mill.sent
