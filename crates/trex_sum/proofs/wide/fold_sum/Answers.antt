use Rattle.std.proofs.Common.{◌≡◌, ◌+◌, ◌∙◌, sym, ap, arith}
use Rattle.trex_sum.specs.Checksum.{sum_of, fold_of}
use Rattle.trex_sum.proofs.WideLemmas.{folds_itself, folds_one, folds_part}
use Rattle.trex_sum.proofs.wide.fold_sum.Goals as goal

pub returns : goal.returns
returns c =
    let start = c.args.start in
    let sum = sum_of c.args.bytes.now in
    let whole : sum + start ≡ start + sum = omega arith in
    let turned : c.sum_wide.result + start ≡ start + c.sum_wide.result = omega arith in
    let one = folds_part (sum + start) sum start c.sum_wide.result (folds_itself (sum + start)) c.sum_wide.ensures.folds in
    c.fold.ensures ∙ ap fold_of (sym turned) ∙ folds_one (sum + start) (c.sum_wide.result + start) one ∙ ap fold_of whole
