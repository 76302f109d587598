use Rattle.std.proofs.Common.{◌∙◌, ap, option_and_then}
use Rattle.trex_json.specs.Kinds.{if_latency}
use Rattle.trex_json.proofs.kinds.latency_word.Goals as goal

pub returns : goal.returns
returns c = c.if_latency.ensures ∙ ap (option_and_then if_latency) c.in_ok-as_str.ensures
