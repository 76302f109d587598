use Rattle.std.proofs.Common.{◌≡◌, map, take, length}
use Rattle.trex_profile.specs.Links.{effective_next}
use Rattle.trex_profile.specs.Member.{member_stream}
use Rattle.trex_profile.specs.Visits.{IsLink}
use Rattle.trex_profile.proofs.chains.links.links_of.Given as goal
use Rattle.std.specs.Prelude.{All}

abbrev pub invariant-loop-member : goal.invariant-loop-member
invariant-loop-member l = record {
  made : l.all.items ≡ map (effective_next (map member_stream l.members)) (map member_stream (take l.member-index l.members));
  within : All (IsLink (length l.members)) l.all.items;
}
