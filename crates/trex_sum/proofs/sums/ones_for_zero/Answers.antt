use Rattle.std.proofs.Common.{sym, ◌∙◌}
use Rattle.trex_sum.proofs.ChecksumLemmas.{folds_up, ones_fold}
use Rattle.trex_sum.proofs.sums.ones_for_zero.Goals as goal

pub returns-then-checksum-eq0-clause-verifies : goal.returns-then-checksum-eq0-clause-verifies
returns-then-checksum-eq0-clause-verifies c sum is = ones_fold sum 0 (sym c.if-checksum-eq0.true ∙ is)

pub returns-else-checksum-eq0-clause-verifies : goal.returns-else-checksum-eq0-clause-verifies
returns-else-checksum-eq0-clause-verifies c sum is = folds_up sum c.args.checksum is
