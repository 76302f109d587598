use Rattle.std.proofs.Common.{ap, ◌∙◌, arith}
use Rattle.trex_sum.specs.Checksum.{sum_of}
use Rattle.trex_sum.proofs.SumLemmas.{sum_of-split}
use Rattle.trex_sum.proofs.sums.sum_words.Goals as goal

pub loop-rest-preserved : goal.loop-rest-preserved
loop-rest-preserved c =
    let split = c.split_at.ensures in
    let front = c.sum_four_words-total.ensures.value ∙ ap sum_of split.front in
    let back = ap sum_of split.back in
    let whole = sum_of-split 8 c.loop-rest.rest.now (omega arith) (omega arith) in
    record { summed = omega arith; bound = omega arith }
