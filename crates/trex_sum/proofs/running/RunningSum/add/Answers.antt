use Rattle.std.proofs.Common.{arith}
use Rattle.trex_sum.proofs.Pieces.{odd-more, even-more}
use Rattle.trex_sum.proofs.running.RunningSum.add.Goals as goal

pub returns-then-piece-eq1-clause-value : goal.returns-then-piece-eq1-clause-value
returns-then-piece-eq1-clause-value c front is =
    rw c.sum_after.ensures.value (odd-more c.args.self.now front c.args.piece.now is c.if-piece-eq1.true)

pub returns-else-piece-eq1-clause-value : goal.returns-else-piece-eq1-clause-value
returns-else-piece-eq1-clause-value c front is =
    rw c.sum_after.ensures.value (even-more c.args.self.now front c.args.piece.now is (omega arith))
