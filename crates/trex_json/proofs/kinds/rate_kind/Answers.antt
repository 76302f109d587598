use Rattle.std.proofs.Common.{◌∙◌, ap, option_and_then}
use Rattle.trex_json.specs.Kinds.{rate_of_word}
use Rattle.trex_json.proofs.kinds.rate_kind.Goals as goal

pub returns : goal.returns
returns c = c.rate_of_word.ensures ∙ ap (option_and_then rate_of_word) c.in_ok-as_str.ensures
