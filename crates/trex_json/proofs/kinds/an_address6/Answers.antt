use Rattle.std.proofs.Common.{◌∙◌, ap, option_and_then}
use Rattle.trex_ipv6.specs.Address.{address6_of}
use Rattle.trex_json.proofs.kinds.an_address6.Goals as goal

pub returns : goal.returns
returns c = c.address6_of.ensures ∙ ap (option_and_then address6_of) c.in_ok-as_str.ensures
