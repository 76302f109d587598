use Rattle.std.proofs.Common.{◌≡◌, map, take}
use Rattle.std.specs.List.{filter_map}
use Rattle.trex_profile.specs.Chains.{leg_of}
use Rattle.trex_profile.specs.Member.{member_stream}
use Rattle.trex_profile.proofs.chains.visits.chain_by.Given as goal

abbrev pub invariant-loop-at : goal.invariant-loop-at
invariant-loop-at l =
    l.legs.items ≡ filter_map (leg_of (map member_stream l.members)) (take l.at-index l.visited.order.items)
