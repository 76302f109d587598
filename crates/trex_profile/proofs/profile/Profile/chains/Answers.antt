use Rattle.std.proofs.Common.{map, sym, ap, ◌∙◌, subst}
use Rattle.std.specs.List.{AllByRecursion}
use Rattle.trex_sched.specs.Chain.{chain_of, IsChain}
use Rattle.trex_sched.specs.Walks.{HaveDistinctStreams}
use Rattle.trex_profile.proofs.Walkable.{chains_of-walkable, chains_of-distinct}
use Rattle.trex_profile.proofs.profile.Profile.chains.Goals as goal

pub returns-clause-walkable : goal.returns-clause-walkable
returns-clause-walkable c =
    let is = ap (map chain_of) c.deref.ensures.value ∙ c.self.invariant.1 in
    subst (AllByRecursion IsChain) (sym is) (chains_of-walkable _ c.self.invariant.0)

pub returns-clause-distinct : goal.returns-clause-distinct
returns-clause-distinct c =
    let is = ap (map chain_of) c.deref.ensures.value ∙ c.self.invariant.1 in
    subst HaveDistinctStreams (sym is) (chains_of-distinct _ c.self.invariant.0)
