use Rattle.trex_ipv6.proofs.AddressLemmas.{address6_of-none}
use Rattle.trex_ipv6.proofs.address.address6_of.Goals as goal

pub returns-in_default : goal.returns-in_default
returns-in_default c = address6_of-none c.args.text.now c.in_default.ensures.value
