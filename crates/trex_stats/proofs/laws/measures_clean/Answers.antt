use Rattle.trex_stats.proofs.Clean.{clean}
use Rattle.trex_stats.proofs.laws.measures_clean.Goals as goal

pub returns : goal.returns
returns c = clean
