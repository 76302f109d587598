use Rattle.trex_sample.proofs.Layered.{template-built}
use Rattle.trex_sample.proofs.laws.templates_are_built.Goals as goal

pub returns : goal.returns
returns c = template-built
