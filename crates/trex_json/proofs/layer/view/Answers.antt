use Rattle.std.proofs.Common.{ap, sym}
use Rattle.trex_json.specs.Layer.{layer}
use Rattle.trex_json.proofs.layer.view.Goals as goal

pub returns-in-Ipv6 : goal.returns-in-Ipv6
returns-in-Ipv6 c = ap layer (sym c.in-Ipv6.is)

pub returns-in-Raw-lend : goal.returns-in-Raw-lend
returns-in-Raw-lend c = cc
