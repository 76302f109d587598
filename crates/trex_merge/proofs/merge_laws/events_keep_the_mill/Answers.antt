use Rattle.trex_merge.proofs.EventLemmas.{emit_keeps, next_in_sequence, refill_keeps, run_keeps, sent_prefix, sent_whole, start_is}
use Rattle.trex_merge.proofs.merge_laws.events_keep_the_mill.Goals as goal

pub returns-clause-start : goal.returns-clause-start
returns-clause-start c = start_is

pub returns-clause-refill : goal.returns-clause-refill
returns-clause-refill c = refill_keeps

pub returns-clause-emit : goal.returns-clause-emit
returns-clause-emit c = emit_keeps

pub returns-clause-run : goal.returns-clause-run
returns-clause-run c = run_keeps

pub returns-clause-prefix : goal.returns-clause-prefix
returns-clause-prefix c = sent_prefix

pub returns-clause-whole : goal.returns-clause-whole
returns-clause-whole c = sent_whole

pub returns-clause-next : goal.returns-clause-next
returns-clause-next c = next_in_sequence
