use Rattle.trex_ipv6.proofs.AddressLemmas.{address6_of-iff}
use Rattle.trex_ipv6.proofs.laws.written_addresses_are_read.Goals as goal

pub returns : goal.returns
returns c = address6_of-iff
