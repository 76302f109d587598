use Rattle.std.proofs.Common.{◌≡◌, map, drop, take}
use Rattle.trex_profile.specs.Cross.{duplicate_refusal}
use Rattle.trex_profile.specs.Links.{ids}
use Rattle.trex_profile.specs.Member.{member_stream}
use Rattle.trex_profile.specs.Order.{first_each}
use Rattle.trex_profile.proofs.chains.links.index_ids.Given as goal

abbrev pub invariant-loop-at : goal.invariant-loop-at
invariant-loop-at l = record {
  keys : l.found.keys ≡ take l.at (ids (map member_stream l.members));
  left : first_each (duplicate_refusal (ids (map member_stream l.members))) l.at (map member_stream (drop l.at l.members))
      ≡ first_each (duplicate_refusal (ids (map member_stream l.members))) 0 (map member_stream l.members);
}
