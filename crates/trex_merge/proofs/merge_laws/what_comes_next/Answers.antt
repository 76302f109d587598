use Rattle.trex_merge.proofs.QueueLemmas.{all_is_end, end_is_all, end_is_ended, need_is_first, packet_is_least}
use Rattle.trex_merge.proofs.merge_laws.what_comes_next.Goals as goal

pub returns-clause-packet : goal.returns-clause-packet
returns-clause-packet c = packet_is_least

pub returns-clause-need : goal.returns-clause-need
returns-clause-need c = need_is_first

pub returns-clause-end : goal.returns-clause-end
returns-clause-end c = λ more queues. (end_is_all more queues, all_is_end more queues)

pub returns-clause-ended : goal.returns-clause-ended
returns-clause-ended c = end_is_ended
