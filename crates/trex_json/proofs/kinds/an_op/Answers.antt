use Rattle.std.proofs.Common.{◌∙◌, ap, option_and_then}
use Rattle.trex_json.specs.Kinds.{op_of_word}
use Rattle.trex_json.proofs.kinds.an_op.Goals as goal

pub returns : goal.returns
returns c = c.op_of_word.ensures ∙ ap (option_and_then op_of_word) c.in_ok-as_str.ensures
