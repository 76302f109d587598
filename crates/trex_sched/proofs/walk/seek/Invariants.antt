use Rattle.std.proofs.Common.{◌≡◌, ◌^◌, ◌<◌, ◌≤◌, ◌-◌}
use Rattle.trex_sched.specs.Chain.{chain_of}
use Rattle.trex_sched.specs.Remaining.{IsReachable, rest_from}
use Rattle.trex_sched.proofs.walk.seek.Given as goal

abbrev pub invariant-loop-slot : goal.invariant-loop-slot
invariant-loop-slot l = record {
  reached : IsReachable (chain_of l.chain) l.cursor.run;
  begun : l.cursor.run.start < l.duration;
  from : l.from ≤ 10 ^ 18;
  rest : rest_from (chain_of l.chain) l.core l.cores l.duration l.cursor.run l.from ≡ rest_from (chain_of l.chain) l.core l.cores l.duration l.fn.cursor.run l.fn.from;
}

abbrev pub decreases-loop-slot : goal.decreases-loop-slot
decreases-loop-slot l = l.duration - l.cursor.run.start
