use Rattle.trex_merge.proofs.Parts.{shares_merged}
use Rattle.trex_merge.proofs.merge_laws.shares_are_all.Goals as goal

pub returns : goal.returns
returns c = shares_merged
