use Rattle.trex_sched.proofs.Numbered.{all_numbered, entries_numbered}
use Rattle.trex_sched.proofs.laws.numbers_follow.Goals as goal

pub returns-clause-chain : goal.returns-clause-chain
returns-clause-chain c = entries_numbered

pub returns-clause-chains : goal.returns-clause-chains
returns-clause-chains c = all_numbered
