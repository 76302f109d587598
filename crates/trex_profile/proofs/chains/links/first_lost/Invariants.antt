use Rattle.std.proofs.Common.{◌≡◌, map, drop}
use Rattle.trex_profile.specs.Cross.{lost_refusal}
use Rattle.trex_profile.specs.Member.{member_stream}
use Rattle.trex_profile.specs.Order.{first_each}
use Rattle.trex_profile.proofs.chains.links.first_lost.Given as goal

abbrev pub invariant-loop-at : goal.invariant-loop-at
invariant-loop-at l =
    first_each (lost_refusal l.found.keys) l.at (map member_stream (drop l.at l.members))
    ≡ first_each (lost_refusal l.found.keys) 0 (map member_stream l.members)
