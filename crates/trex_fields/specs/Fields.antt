-- The names of a packet's fields and where each lies. Own names, after those that users of packet generators know; the offsets are those of
-- Ethernet (IEEE 802.3), tags (IEEE 802.1Q), IPv4 (RFC 791, 3.1), TCP (RFC 793, 3.1) and UDP (RFC 768).
use Rattle.std.specs.Prelude.{ℕ, ◌+◌, codes, nat_le, if◌then◌else◌, Bool, List, [], ◌∷◌, Option, Some, None}
use Rattle.std.specs.List.{find}
use Rattle.std.specs.Option.{option_map, option_and_then}
use Rattle.std.specs.Str.{bytes_eq}
use Rattle.trex_fields.specs.declared.places.Place.{Place}
use Rattle.trex_fields.specs.declared.table.Base.{Base}
use Rattle.trex_fields.specs.declared.table.Base.TheVariants.{Ethernet, FirstTag, SecondTag, Ipv4, Tcp, Udp}
use Rattle.trex_fields.specs.Transport.{tcp_of, udp_of}
use Rattle.trex_layers.specs.declared.places.Layers.{Layers}

-- a field: its name, the layer that holds it, its first byte counted from the layer's base, and its length
pub record Row : Type 0 where
  pub name : List ℕ
  pub base : Base
  pub offset : ℕ
  pub size : ℕ

-- a field from its columns
abbrev pub row : List ℕ → Base → ℕ → ℕ → Row
row name base offset size = record { name = name; base = base; offset = offset; size = size }

-- All fields. Those of a tag are counted from the packet's start. A name with a number at its end is one byte of the longer field.
unfoldable pub field_table : List Row
field_table =
    row (codes "Ethernet.dst") Ethernet 0 6 ∷
    row (codes "Ethernet.src") Ethernet 6 6 ∷
    row (codes "Ethernet.type") Ethernet 12 2 ∷
    row (codes "Ethernet.dst.0") Ethernet 0 1 ∷
    row (codes "Ethernet.dst.1") Ethernet 1 1 ∷
    row (codes "Ethernet.dst.2") Ethernet 2 1 ∷
    row (codes "Ethernet.dst.3") Ethernet 3 1 ∷
    row (codes "Ethernet.dst.4") Ethernet 4 1 ∷
    row (codes "Ethernet.dst.5") Ethernet 5 1 ∷
    row (codes "Ethernet.src.0") Ethernet 6 1 ∷
    row (codes "Ethernet.src.1") Ethernet 7 1 ∷
    row (codes "Ethernet.src.2") Ethernet 8 1 ∷
    row (codes "Ethernet.src.3") Ethernet 9 1 ∷
    row (codes "Ethernet.src.4") Ethernet 10 1 ∷
    row (codes "Ethernet.src.5") Ethernet 11 1 ∷
    row (codes "Dot1Q.tci") FirstTag 14 2 ∷
    row (codes "Dot1Q.type") FirstTag 16 2 ∷
    row (codes "Dot1Q:1.tci") SecondTag 18 2 ∷
    row (codes "Dot1Q:1.type") SecondTag 20 2 ∷
    row (codes "IP.vihl") Ipv4 0 1 ∷
    row (codes "IP.tos") Ipv4 1 1 ∷
    row (codes "IP.len") Ipv4 2 2 ∷
    row (codes "IP.id") Ipv4 4 2 ∷
    row (codes "IP.frag") Ipv4 6 2 ∷
    row (codes "IP.ttl") Ipv4 8 1 ∷
    row (codes "IP.proto") Ipv4 9 1 ∷
    row (codes "IP.chksum") Ipv4 10 2 ∷
    row (codes "IP.src") Ipv4 12 4 ∷
    row (codes "IP.dst") Ipv4 16 4 ∷
    row (codes "IP.addrs") Ipv4 12 8 ∷
    row (codes "IP.src.0") Ipv4 12 1 ∷
    row (codes "IP.src.1") Ipv4 13 1 ∷
    row (codes "IP.src.2") Ipv4 14 1 ∷
    row (codes "IP.src.3") Ipv4 15 1 ∷
    row (codes "IP.dst.0") Ipv4 16 1 ∷
    row (codes "IP.dst.1") Ipv4 17 1 ∷
    row (codes "IP.dst.2") Ipv4 18 1 ∷
    row (codes "IP.dst.3") Ipv4 19 1 ∷
    row (codes "TCP.sport") Tcp 0 2 ∷
    row (codes "TCP.dport") Tcp 2 2 ∷
    row (codes "TCP.ports") Tcp 0 4 ∷
    row (codes "TCP.seq") Tcp 4 4 ∷
    row (codes "TCP.ack") Tcp 8 4 ∷
    row (codes "TCP.seqack") Tcp 4 8 ∷
    row (codes "TCP.dataofs") Tcp 12 1 ∷
    row (codes "TCP.flags") Tcp 13 1 ∷
    row (codes "TCP.window") Tcp 14 2 ∷
    row (codes "TCP.chksum") Tcp 16 2 ∷
    row (codes "TCP.urgptr") Tcp 18 2 ∷
    row (codes "UDP.sport") Udp 0 2 ∷
    row (codes "UDP.dport") Udp 2 2 ∷
    row (codes "UDP.ports") Udp 0 4 ∷
    row (codes "UDP.len") Udp 4 2 ∷
    row (codes "UDP.chksum") Udp 6 2 ∷
    row (codes "UDP.head") Udp 0 8 ∷
    []

-- whether a field has a name
abbrev pub named : List ℕ → Row → Bool
named name field = bytes_eq field.name name

-- the place from which a layer's fields are counted, where the packet has the layer
abbrev pub base_of : Layers → Base → Option ℕ
base_of layers Ethernet = if layers.ethernet then Some 0 else None
base_of layers FirstTag = if nat_le 1 layers.tags then Some 0 else None
base_of layers SecondTag = if nat_le 2 layers.tags then Some 0 else None
base_of layers Ipv4 = option_map (λ ip. ip.at) layers.ip
base_of layers Tcp = option_and_then tcp_of layers.l4
base_of layers Udp = option_and_then udp_of layers.l4

-- the place of a field, where its layer is there
abbrev pub place_in : Layers → Row → Option Place
place_in layers field = option_map (λ base. record { at = base + field.offset; size = field.size }) (base_of layers field.base)

-- the place of the field with a name
abbrev pub place_by_name : Layers → List ℕ → Option Place
place_by_name layers name = option_and_then (place_in layers) (find (named name) field_table)
