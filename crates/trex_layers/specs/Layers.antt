-- The headers that a packet's bytes hold and where each begins: Ethernet (IEEE 802.3), up to two tags (IEEE 802.1Q), IPv4 (RFC 791, 3.1),
-- TCP (RFC 793, 3.1) and UDP (RFC 768). That only these are looked for, and in this order, is the program's own choice.
use Rattle.std.specs.Prelude.{ℕ, ◌+◌, ◌*◌, ◌/◌, ◌%◌, ◌<◌, ◌==◌, ◌&&◌, nat_le, if◌then◌else◌, Bool, true, false, List, length, slice_index, Option, Some, None, IfSome}
use Rattle.std.specs.Option.{option_and_then}
use Rattle.trex_layers.specs.declared.places.Ipv4Place.{Ipv4Place}
use Rattle.trex_layers.specs.declared.places.L4Place.{L4Place}
use Rattle.trex_layers.specs.declared.places.L4Place.TheVariants.{Tcp, Udp}
use Rattle.trex_layers.specs.declared.places.Layers.{Layers}

-- so many bytes are there from a place on
abbrev pub has_bytes : List ℕ → ℕ → ℕ → Bool
has_bytes bytes at count = nat_le (at + count) (length bytes)

-- the 16-bit number at a place, in network byte order
abbrev pub word_at : List ℕ → ℕ → ℕ
word_at bytes at = 256 * slice_index bytes at + slice_index bytes (at + 1)

-- The type stands in the last two bytes of the Ethernet header and of each tag (IEEE 802.3, 3.2.6; IEEE 802.1Q, 9.6).
abbrev pub type_after : List ℕ → ℕ → ℕ
type_after bytes tags = word_at bytes (12 + 4 * tags)

-- the place behind the Ethernet header and so many tags
abbrev pub behind_tags : ℕ → ℕ
behind_tags tags = 14 + 4 * tags

-- after so many tags a further one follows (IEEE 802.1Q, 9.6): the type is 0x8100, and 4 more bytes are there
abbrev pub is_tagged : List ℕ → ℕ → Bool
is_tagged bytes tags = (type_after bytes tags == 0x8100) && has_bytes bytes (behind_tags tags) 4

-- the number of tags, of which two at most are read
abbrev pub tags_of : List ℕ → ℕ
tags_of bytes = if is_tagged bytes 0 then (if is_tagged bytes 1 then 2 else 1) else 0

-- the length of the IPv4 header at a place: its first byte's low half counts words of 4 bytes (RFC 791, 3.1)
abbrev pub header_of : List ℕ → ℕ → ℕ
header_of bytes at = slice_index bytes at % 16 * 4

-- an IPv4 header stands at a place (RFC 791, 3.1): its least 20 bytes are there, the version is 4, and the whole header, of 5 words or more, is there
abbrev pub is_ipv4 : List ℕ → ℕ → Bool
is_ipv4 bytes at =
    has_bytes bytes at 20
    && ((slice_index bytes at / 16 == 4) && (nat_le 20 (header_of bytes at) && has_bytes bytes at (header_of bytes at)))

-- the IPv4 header at a place
abbrev pub ipv4_of : List ℕ → ℕ → Option Ipv4Place
ipv4_of bytes at =
    if is_ipv4 bytes at then Some (record { at = at; header = header_of bytes at; protocol = slice_index bytes (at + 9) }) else None

-- the IPv4 header behind so many tags, where the last type is 0x0800
abbrev pub network_of : List ℕ → ℕ → Option Ipv4Place
network_of bytes tags = if type_after bytes tags == 0x0800 then ipv4_of bytes (behind_tags tags) else None

-- the header behind an IPv4 header: TCP where the protocol is 6 and 20 bytes are there, UDP where it is 17 and 8 bytes are there
abbrev pub transport_of : List ℕ → Ipv4Place → Option L4Place
transport_of bytes ip =
    if (ip.protocol == 6) && has_bytes bytes (ip.at + ip.header) 20 then Some (Tcp (ip.at + ip.header))
    else (if (ip.protocol == 17) && has_bytes bytes (ip.at + ip.header) 8 then Some (Udp (ip.at + ip.header)) else None)

-- where a TCP or UDP header begins
abbrev pub start_of : L4Place → ℕ
start_of (Tcp at) = at
start_of (Udp at) = at

-- the first byte behind a TCP or UDP header, a TCP header taken as 20 bytes
abbrev pub end_of : L4Place → ℕ
end_of (Tcp at) = at + 20
end_of (Udp at) = at + 8

-- the first byte behind what was recognised
abbrev pub rest_of : ℕ → Option Ipv4Place → Option L4Place → ℕ
rest_of tags None None = behind_tags tags
rest_of tags None (Some l4) = end_of l4
rest_of tags (Some ip) None = ip.at + ip.header
rest_of tags (Some ip) (Some l4) = end_of l4

-- the headers of a packet with so many tags and, where there is one, an IPv4 header
abbrev pub layers_over : List ℕ → ℕ → Option Ipv4Place → Layers
layers_over bytes tags ip =
    let l4 = option_and_then (transport_of bytes) ip in
    record { ethernet = true; tags = tags; ip = ip; l4 = l4; rest = rest_of tags ip l4 }

-- the headers of a packet: none in fewer bytes than an Ethernet header has
abbrev pub parsed : List ℕ → Layers
parsed bytes =
    if has_bytes bytes 0 14 then layers_over bytes (tags_of bytes) (network_of bytes (tags_of bytes))
    else record { ethernet = false; tags = 0; ip = None; l4 = None; rest = 0 }

-- each header begins below a bound
pub record BeginBelow (bound : ℕ) (layers : Layers) : Type 0 where
  pub network : IfSome layers.ip (λ ip. ip.at < bound)
  pub transport : IfSome layers.l4 (λ l4. start_of l4 < bound)
