-- std reads a text without a plus sign as `whole_of` does.
use Rattle.std.proofs.Common.{sym, ◌∙◌}
use Rattle.trex_decimal.proofs.Numbers.{is_plus, not_plus, whole_of-plus, whole_of-parsed}
use Rattle.trex_decimal.proofs.number.whole.Goals as goal

pub returns-then-begins_with_plus : goal.returns-then-begins_with_plus
returns-then-begins_with_plus c = sym (whole_of-plus c.args.text.now (is_plus _ _ c.begins_with_plus.ensures c.if-begins_with_plus.true))

pub returns : goal.returns
returns c =
    c.ok.ensures.value
    ∙ whole_of-parsed c.args.text.now c.parse.result c.parse.ensures.value.0 (not_plus _ _ c.begins_with_plus.ensures c.if-begins_with_plus.false)
