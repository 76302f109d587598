use Rattle.std.proofs.Common.{◌∙◌, ap, option_and_then}
use Rattle.trex_json.specs.Addresses.{mac_of}
use Rattle.trex_json.proofs.kinds.a_mac.Goals as goal

pub returns : goal.returns
returns c = c.mac_of.ensures ∙ ap (option_and_then mac_of) c.in_ok-as_str.ensures
