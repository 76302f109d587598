use Rattle.std.proofs.Common.{sym, ap, ◌∙◌, arith}
use Rattle.trex_import.specs.Fit.{text_unfit}
use Rattle.trex_import.proofs.DraftLemmas.{draft-unfit, draft-fit, draft-text, text_unfit-long, text_unfit-fits}
use Rattle.trex_import.proofs.draft.Draft.text.Goals as goal

pub returns-in-Some : goal.returns-in-Some
returns-in-Some c = λ rs stands. draft-unfit c.args.self rs stands c.in-Some.unfit c.in-Some.is

pub returns-then-len-gt-LONGEST_TEXT : goal.returns-then-len-gt-LONGEST_TEXT
returns-then-len-gt-LONGEST_TEXT c = λ rs stands.
    let text = c.in-Ok.text.items in
    let same = draft-text c.args.self rs stands text c.in_default.is c.in-Ok.ensures in
    draft-fit c.args.self rs stands c.in_default.is ∙ ap text_unfit (sym same) ∙ text_unfit-long text (omega arith)

pub returns : goal.returns
returns c = λ rs stands.
    let text = c.in-Ok.text.items in
    let same = draft-text c.args.self rs stands text c.in_default.is c.in-Ok.ensures in
    (draft-fit c.args.self rs stands c.in_default.is ∙ ap text_unfit (sym same) ∙ text_unfit-fits text (omega arith), same)
