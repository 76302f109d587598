-- A layer of a packet over IPv4 as plain data. Own.
pub use Rattle.trex_headers.specs.Layer.{Layer, Ethernet, Vlan, Ipv4, Tcp, Udp, Raw, layer_of}
use Rattle.trex_build.specs.declared.layer.LayerSpec.{LayerSpec}
use Rattle.trex_build.specs.declared.layer.LayerSpec.TheVariants.{Ethernet as EthernetSpec, Vlan as VlanSpec, Ipv4 as Ipv4Spec, Tcp as TcpSpec, Udp as UdpSpec, Raw as RawSpec}

-- a layer as it is held
abbrev pub layer : LayerSpec → Layer
layer (EthernetSpec dst src etype) = Ethernet dst src etype
layer (VlanSpec tci etype) = Vlan tci etype
layer (Ipv4Spec tos id frag ttl proto src dst) = Ipv4 tos id frag ttl proto src dst
layer (TcpSpec sport dport seq ack flags window) = Tcp sport dport seq ack flags window
layer (UdpSpec sport dport) = Udp sport dport
layer (RawSpec bytes) = Raw bytes.items
