use Rattle.trex_merge.proofs.ShareLemmas.{emit_shares, refill_shares, start_shares}
use Rattle.trex_merge.proofs.merge_laws.events_keep_the_shares.Goals as goal

pub returns-clause-start : goal.returns-clause-start
returns-clause-start c = start_shares

pub returns-clause-refill : goal.returns-clause-refill
returns-clause-refill c = refill_shares

pub returns-clause-emit : goal.returns-clause-emit
returns-clause-emit c = emit_shares
