use Rattle.std.proofs.Common.{◌∙◌, ap, option_and_then}
use Rattle.trex_json.specs.Kinds.{layer_of_word}
use Rattle.trex_json.proofs.kinds.layer_word.Goals as goal

pub returns : goal.returns
returns c = c.layer_of_word.ensures ∙ ap (option_and_then layer_of_word) c.in_ok-as_str.ensures
