use Rattle.std.proofs.Common.{◌≡◌, map, take}
use Rattle.std.specs.BinaryHeap.{IsHeap, heap_items}
use Rattle.std.specs.List.{AllByRecursion}
use Rattle.trex_sched.specs.Heads.{AreHeads, least_first}
use Rattle.trex_sched.proofs.Firsts.{BeginsBelow}
use Rattle.trex_sched.proofs.Shares.{share_of}
use Rattle.trex_sched.proofs.walks.Walks.start.Given as goal

abbrev pub invariant-loop-chain : goal.invariant-loop-chain
invariant-loop-chain l =
    AreHeads l.walks.items (heap_items l.heads) × IsHeap least_first (heap_items l.heads)
    × AllByRecursion BeginsBelow (take l.chain-index l.chains)
    × (l.walks.items ≡ map (share_of l.core l.cores l.duration) (take l.chain-index l.chains))
