use Rattle.trex_sched.proofs.EntryOrder.{entries_distinct, entries_streams}
use Rattle.trex_sched.proofs.Shares.{all_distinct}
use Rattle.trex_sched.proofs.laws.chains_are_apart.Goals as goal

pub returns : goal.returns
returns c chains d are streams = all_distinct chains d are streams (λ chain is. entries_streams chain d is) (λ chain is. entries_distinct chain d is)
