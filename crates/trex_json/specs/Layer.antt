-- A layer of a profile as plain data. Own.
use Rattle.trex_headers.specs.Layer.{Layer, Ethernet, Vlan, Ipv4, Ipv6, Tcp, Udp, Raw}
use Rattle.trex_json.specs.declared.layer.AnyLayer.{AnyLayer}
use Rattle.trex_json.specs.declared.layer.AnyLayer.TheVariants.{Ethernet as AnyEthernet, Vlan as AnyVlan, Ipv4 as AnyIpv4, Ipv6 as AnyIpv6, Tcp as AnyTcp, Udp as AnyUdp, Raw as AnyRaw}

-- a layer as it is held
abbrev pub layer : AnyLayer → Layer
layer (AnyEthernet dst src etype) = Ethernet dst src etype
layer (AnyVlan tci etype) = Vlan tci etype
layer (AnyIpv4 tos id frag ttl proto src dst) = Ipv4 tos id frag ttl proto src dst
layer (AnyIpv6 class label hop next src dst) = Ipv6 class label hop next src dst
layer (AnyTcp sport dport seq ack flags window) = Tcp sport dport seq ack flags window
layer (AnyUdp sport dport) = Udp sport dport
layer (AnyRaw bytes) = Raw bytes.items
