use Rattle.std.proofs.Common.{◌-◌, ◌+◌, ap, refl, arith}
use Rattle.trex_stats.proofs.Pushes.{delays_timely}
use Rattle.trex_stats.proofs.delays.Delays.add.Goals as goal

pub returns-clause-kept : goal.returns-clause-kept
returns-clause-kept c ps a are sent came =
    delays_timely c.args.self.now ps a are _ (c.args.came - c.args.sent) (omega arith) (omega arith) refl refl c.lower-self.ensures c.max-self.ensures
    (ap (λ n. c.args.self.now.total + n) c.from.ensures)
