use Rattle.std.proofs.Common.{ℕ, ◌+◌, ◌/◌, ◌%◌, sym, subst, arith}
use Rattle.trex_sum.specs.Checksum.{word_at}
use Rattle.trex_sum.specs.Wide.{FoldsAs}
use Rattle.trex_sum.proofs.SumLemmas.{sum_of-eight}
use Rattle.trex_sum.proofs.WideLemmas.{two_wide}
use Rattle.trex_sum.proofs.wide.sum_two_wide.Goals as goal

pub returns-clause-folds : goal.returns-clause-folds
returns-clause-folds c =
    let xs = c.args.bytes.now in
    let n = c.number_of-word.result in
    let byte = c.type_inv.bytes in
    subst (λ (sum : ℕ). FoldsAs sum (n / 4294967296 + n % 4294967296)) (sym (sum_of-eight xs c.requires))
    (two_wide n (word_at xs 0) (word_at xs 2) (word_at xs 4) (word_at xs 6)
    (omega (arith, byte 0, byte 1)) (omega (arith, byte 2, byte 3)) (omega (arith, byte 4, byte 5)) (omega (arith, byte 6, byte 7))
    (omega (arith, c.number_of-word.ensures)))
