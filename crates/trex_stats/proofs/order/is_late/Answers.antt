use Rattle.trex_stats.proofs.Members.{late_by_greatest}
use Rattle.trex_stats.proofs.order.is_late.Goals as goal

pub returns-in-Some : goal.returns-in-Some
returns-in-Some c = late_by_greatest c.args.number c.in-Some.greatest c.args.seen.now c.in-Some.ensures.0 c.in-Some.ensures.1
