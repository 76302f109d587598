-- A layer of a packet over IPv6 as plain data. Own.
pub use Rattle.trex_headers.specs.Layer.{Layer, Ethernet, Vlan, Ipv6, Tcp, Udp, Raw, layer_of}
use Rattle.trex_ipv6.specs.declared.layer.Layer6.{Layer6}
use Rattle.trex_ipv6.specs.declared.layer.Layer6.TheVariants.{Ethernet as Ethernet6, Vlan as Vlan6, Ipv6 as Ipv66, Tcp as Tcp6, Udp as Udp6, Raw as Raw6}
use Rattle.std.specs.Prelude.{◌<◌, ◌^◌}

-- a layer as it is held
abbrev pub layer6 : Layer6 → Layer
layer6 (Ethernet6 dst src etype) = Ethernet dst src etype
layer6 (Vlan6 tci etype) = Vlan tci etype
layer6 (Ipv66 class label hop next src dst) = Ipv6 class label hop next src dst
layer6 (Tcp6 sport dport seq ack flags window) = Tcp sport dport seq ack flags window
layer6 (Udp6 sport dport) = Udp sport dport
layer6 (Raw6 bytes) = Raw bytes.items

-- a flow label has 20 bits (RFC 8200, section 3)
abbrev pub IsLabelled : Layer → Type 0
IsLabelled (Ipv6 class label hop next src dst) = label < 2 ^ 20
IsLabelled _ = Unit {0}
