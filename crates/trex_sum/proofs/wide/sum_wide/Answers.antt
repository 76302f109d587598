use Rattle.std.proofs.Common.{◌≡◌, ◌+◌, ap, refl, subst, arith}
use Rattle.trex_sum.specs.Checksum.{sum_of}
use Rattle.trex_sum.specs.Wide.{FoldsAs}
use Rattle.trex_sum.proofs.SumLemmas.{sum_of-split}
use Rattle.trex_sum.proofs.WideLemmas.{folds_part}
use Rattle.trex_sum.proofs.wide.sum_wide.Goals as goal

pub loop-rest-init : goal.loop-rest-init
loop-rest-init c = record { folds = record { extra = 0; is = omega arith; zero = λ none. refl }; bound = omega arith }

pub loop-rest-preserved : goal.loop-rest-preserved
loop-rest-preserved c =
    let split = c.split_at.ensures in
    let old = c.loop-rest.total in
    let rest = c.loop-rest.rest.now in
    let front = sum_of c.split_at.result.0.now in
    let back = sum_of c.split_at.result.1.now in
    let front_is = ap sum_of split.front in
    let back_is = ap sum_of split.back in
    let whole = sum_of-split 8 rest (omega arith) (omega arith) in
    let parts : old + sum_of rest ≡ front + (old + back) = omega arith in
    let turned = folds_part (sum_of c.args.bytes.now) front (old + back) c.sum_two_wide-total.result
    (subst (FoldsAs (sum_of c.args.bytes.now)) parts c.loop-rest.invariant.folds) c.sum_two_wide-total.ensures.folds in
    record {
      folds = subst (FoldsAs (sum_of c.args.bytes.now)) (omega arith) turned;
      bound = omega arith;
    }
