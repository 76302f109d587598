use Rattle.std.proofs.Common.{sym, ◌∙◌, arith}
use Rattle.trex_sum.specs.Checksum.{word_at}
use Rattle.trex_sum.proofs.SumLemmas.{four_words, sum_of-eight}
use Rattle.trex_sum.proofs.sums.sum_four_words.Goals as goal

pub returns-clause-value : goal.returns-clause-value
returns-clause-value c =
    let xs = c.args.bytes.now in
    let byte = c.type_inv.bytes in
    four_words c.number_of-word.result (word_at xs 0) (word_at xs 2) (word_at xs 4) (word_at xs 6)
    (omega (arith, byte 0, byte 1)) (omega (arith, byte 2, byte 3)) (omega (arith, byte 4, byte 5)) (omega (arith, byte 6, byte 7))
    (omega (arith, c.number_of-word.ensures))
    ∙ sym (sum_of-eight xs c.requires)
