use Rattle.std.proofs.Common.{◌∙◌, ap, option_and_then}
use Rattle.trex_decimal.specs.Decimal.{signed_of}
use Rattle.trex_json.proofs.kinds.a_signed.Goals as goal

pub returns : goal.returns
returns c = c.signed.ensures ∙ ap (option_and_then signed_of) c.in_ok-as_str.ensures
