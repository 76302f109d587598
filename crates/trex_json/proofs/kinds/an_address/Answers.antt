use Rattle.std.proofs.Common.{◌∙◌, ap, option_and_then}
use Rattle.trex_json.specs.Addresses.{address_of}
use Rattle.trex_json.proofs.kinds.an_address.Goals as goal

pub returns : goal.returns
returns c = c.address_of.ensures ∙ ap (option_and_then address_of) c.in_ok-as_str.ensures
