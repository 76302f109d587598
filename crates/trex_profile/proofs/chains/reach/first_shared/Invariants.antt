use Rattle.std.proofs.Common.{◌≡◌, map, drop}
use Rattle.trex_profile.specs.Cross.{shared_refusal}
use Rattle.trex_profile.specs.Member.{member_stream}
use Rattle.trex_profile.specs.Order.{first_each}
use Rattle.trex_profile.proofs.chains.reach.first_shared.Given as goal

abbrev pub invariant-loop-at : goal.invariant-loop-at
invariant-loop-at l =
    first_each (shared_refusal l.links l.starts) l.at (map member_stream (drop l.at l.members))
    ≡ first_each (shared_refusal l.links l.starts) 0 (map member_stream l.members)
