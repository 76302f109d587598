-- The reply and the table are those of the line.
use Rattle.trex_rpc.specs.Talk.{captured, reply}
use Rattle.trex_top.proofs.answering.respond.Goals as goal

pub returns-clause-answered : goal.returns-clause-answered
unfolding captured reply
returns-clause-answered g c =
    let (table, reply_is) = c.in-Ok.ensures.does in
    rw (← table, ← reply_is) c.answer.ensures.answered
