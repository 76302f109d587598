use Rattle.std.proofs.Common.{length, map, arith}
use Rattle.std.proofs.lemmas.List.{length-map}
use Rattle.trex_profile.specs.Member.{member_stream}
use Rattle.trex_profile.proofs.OrderLemmas.{starts_from-rising}
use Rattle.trex_profile.proofs.chains.visits.starts_of.Goals as goal

pub returns-clause-rising : goal.returns-clause-rising
returns-clause-rising c =
    rw c.in_ok-all.ensures (starts_from-rising (length c.args.members.now) 0 (map member_stream c.args.members.now) (rw length-map (omega arith)))
