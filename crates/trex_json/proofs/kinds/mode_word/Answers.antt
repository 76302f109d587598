use Rattle.std.proofs.Common.{◌∙◌, ap, option_and_then}
use Rattle.trex_json.specs.Kinds.{mode_of_word}
use Rattle.trex_json.proofs.kinds.mode_word.Goals as goal

pub returns : goal.returns
returns c = c.mode_of_word.ensures ∙ ap (option_and_then mode_of_word) c.in_ok-as_str.ensures
