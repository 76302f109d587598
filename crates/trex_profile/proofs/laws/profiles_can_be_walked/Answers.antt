use Rattle.std.proofs.Common.{ℕ, ◌<◌, List, [], ◌∷◌, length, map}
use Rattle.std.specs.List.{AllByRecursion}
use Rattle.std.proofs.lemmas.Option.{slice_get_within}
use Rattle.trex_sched.specs.Chain.{Chain}
use Rattle.trex_sched.specs.declared.chain.Leg.{Leg}
use Rattle.trex_profile.specs.Chains.{chain_by, starts}
use Rattle.trex_profile.specs.Links.{links}
use Rattle.trex_profile.specs.Stream.{Stream}
use Rattle.trex_profile.specs.Visits.{round_of}
use Rattle.trex_profile.proofs.Walkable.{chains_of-distinct, chains_of-walkable, legs-all}
use Rattle.trex_profile.proofs.laws.profiles_can_be_walked.Goals as goal

-- a leg that names a stream of the profile
abbrev Names : List Stream → Leg → Type 0
Names p leg = leg.stream < length p

chains_name : (p : List Stream) (firsts : List ℕ)
    → AllByRecursion (λ (chain : Chain). AllByRecursion (Names p) chain.legs) (map (λ start. chain_by p (round_of (links p) start)) firsts)
chains_name p [] = tt
chains_name p (start ∷ firsts) =
    (legs-all (Names p) p (λ at s there. slice_get_within p at s there) (round_of (links p) start).order, chains_name p firsts)

pub returns-clause-walkable : goal.returns-clause-walkable
returns-clause-walkable c = chains_of-walkable

pub returns-clause-distinct : goal.returns-clause-distinct
returns-clause-distinct c = chains_of-distinct

pub returns-clause-streams : goal.returns-clause-streams
returns-clause-streams c p = chains_name p (starts p)
