use Rattle.trex_sample.proofs.Kept.{sample-kept}
use Rattle.trex_sample.proofs.laws.samples_keep_the_rules.Goals as goal

pub returns : goal.returns
returns c = sample-kept
