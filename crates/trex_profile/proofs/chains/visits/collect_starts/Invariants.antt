use Rattle.std.proofs.Common.{◌≡◌, ◌++◌, map, drop}
use Rattle.trex_profile.specs.Chains.{starts_from, starts}
use Rattle.trex_profile.specs.Member.{member_stream}
use Rattle.trex_profile.proofs.chains.visits.collect_starts.Given as goal

abbrev pub invariant-loop-at : goal.invariant-loop-at
invariant-loop-at l =
    l.all.items ++ starts_from l.at (map member_stream (drop l.at l.members)) ≡ starts (map member_stream l.members)
