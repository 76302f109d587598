use Rattle.std.proofs.Common.{◌+◌, arith}
use Rattle.trex_vars.proofs.Quotients.{rest-mod}
use Rattle.trex_vars.proofs.places.Places.within.Goals as goal

pub returns-then-rest-self-clause-value : goal.returns-then-rest-self-clause-value
returns-then-rest-self-clause-value c =
    rest-mod c.args.word (c.args.self.now.last + 1) c.fitting-fitting.result _ (omega arith) (omega arith)

pub returns-else-rest-self-clause-value : goal.returns-else-rest-self-clause-value
returns-else-rest-self-clause-value c =
    rest-mod c.args.word (c.args.self.now.last + 1) (c.fitting-fitting.result + 1) _ (omega arith) (omega arith)
