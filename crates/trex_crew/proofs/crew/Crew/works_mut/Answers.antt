use Rattle.std.proofs.Common.{refl}
use Rattle.trex_crew.specs.Lending.{with_works}
use Rattle.trex_crew.proofs.Same.{same_crew}
use Rattle.trex_crew.proofs.crew.Crew.works_mut.Goals as goal

pub returns : goal.returns
returns g c = ((refl, λ w. same_crew (with_works c.args.self.now w) _ _ _), record { lends = tt; works = c.deref_mut.ensures.value })
