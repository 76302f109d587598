use Rattle.std.proofs.Common.{◌≡◌, map, take}
use Rattle.trex_sched.specs.Chain.{chain_of}
use Rattle.trex_profile.specs.Chains.{chain_by}
use Rattle.trex_profile.specs.Member.{member_stream}
use Rattle.trex_profile.specs.Visits.{round_of}
use Rattle.trex_profile.proofs.chains.visits.chains_of.Given as goal

abbrev pub invariant-loop-start : goal.invariant-loop-start
invariant-loop-start l =
    map chain_of l.chains.items ≡ map (λ start. chain_by (map member_stream l.members) (round_of l.nexts start)) (take l.start-index l.firsts)
