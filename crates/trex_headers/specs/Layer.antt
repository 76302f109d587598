-- A layer of a packet as plain data. Own.
use Rattle.std.specs.Prelude.{ℕ, List}
use Rattle.trex_headers.specs.declared.layer.LayerView.{LayerView}
use Rattle.trex_headers.specs.declared.layer.LayerView.TheVariants.{Ethernet as EthernetView, Vlan as VlanView, Ipv4 as Ipv4View, Ipv6 as Ipv6View, Tcp as TcpView, Udp as UdpView, Raw as RawView}

-- a layer
pub data Layer : Type 0 where
  -- destination, source, type
  Ethernet : List ℕ → List ℕ → ℕ → Layer
  -- control information, type
  Vlan : ℕ → ℕ → Layer
  -- type of service, identification, flags and fragment offset, time to live, protocol, source, destination
  Ipv4 : ℕ → ℕ → ℕ → ℕ → ℕ → ℕ → ℕ → Layer
  -- traffic class, flow label, hop limit, next header, source, destination
  Ipv6 : ℕ → ℕ → ℕ → ℕ → List ℕ → List ℕ → Layer
  -- ports, sequence number, acknowledgment number, flags, window
  Tcp : ℕ → ℕ → ℕ → ℕ → ℕ → ℕ → Layer
  -- ports
  Udp : ℕ → ℕ → Layer
  -- the payload's bytes
  Raw : List ℕ → Layer

-- a layer as it is lent
abbrev pub layer_of : LayerView → Layer
layer_of (EthernetView dst src etype) = Ethernet dst.now src.now etype
layer_of (VlanView tci etype) = Vlan tci etype
layer_of (Ipv4View tos id frag ttl proto src dst) = Ipv4 tos id frag ttl proto src dst
layer_of (Ipv6View class label hop next src dst) = Ipv6 class label hop next src.now dst.now
layer_of (TcpView sport dport seq ack flags window) = Tcp sport dport seq ack flags window
layer_of (UdpView sport dport) = Udp sport dport
layer_of (RawView bytes) = Raw bytes.now
