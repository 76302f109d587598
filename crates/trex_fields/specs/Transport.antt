-- A TCP or UDP header by its kind. Own.
use Rattle.std.specs.Prelude.{ℕ, Option, Some, None}
use Rattle.trex_layers.specs.declared.places.L4Place.{L4Place}
use Rattle.trex_layers.specs.declared.places.L4Place.TheVariants.{Tcp, Udp}

-- where a TCP header begins
abbrev pub tcp_of : L4Place → Option ℕ
tcp_of (Tcp at) = Some at
tcp_of (Udp at) = None

-- where a UDP header begins
abbrev pub udp_of : L4Place → Option ℕ
udp_of (Tcp at) = None
udp_of (Udp at) = Some at
