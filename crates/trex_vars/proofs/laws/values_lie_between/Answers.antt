use Rattle.trex_vars.proofs.BoundsLemmas.{value-between}
use Rattle.trex_vars.proofs.laws.values_lie_between.Goals as goal

pub returns : goal.returns
returns c = value-between
