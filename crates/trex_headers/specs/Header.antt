-- The header of each layer, as a function of its fields and of what follows it.
use Rattle.std.specs.Prelude.{ℕ, ◌+◌, ◌*◌, ◌%◌, List, [], ◌∷◌, ◌++◌, length, Option, Some}
use Rattle.byteorder.specs.Endian.{big_bytes}
use Rattle.trex_sum.specs.Checksum.{checksum_of, ones_for_zero}
use Rattle.trex_headers.specs.Layer.{Layer, Ethernet, Vlan, Ipv4, Ipv6, Tcp, Udp, Raw}

-- the type in the header before a layer (IEEE 802.3, 3.2.6): 0x8100 before a tag (IEEE 802.1Q, 9.6), 0x0800 before IPv4 (RFC 894),
-- 0x86DD before IPv6 (RFC 2464, section 3), else its own
abbrev pub type_before : Option Layer → ℕ → ℕ
type_before (Some (Vlan tci etype)) own = 0x8100
type_before (Some (Ipv4 tos id frag ttl proto src dst)) own = 0x0800
type_before (Some (Ipv6 class label hop next src dst)) own = 0x86dd
type_before _ own = own

-- the protocol in the IPv4 header before a layer (RFC 790), or the next header in the IPv6 header (RFC 8200, section 3): 6 before TCP,
-- 17 before UDP, else its own
abbrev pub protocol_before : Option Layer → ℕ → ℕ
protocol_before (Some (Tcp sport dport seq ack flags window)) own = 6
protocol_before (Some (Udp sport dport)) own = 17
protocol_before _ own = own

-- two addresses in network byte order
abbrev pub addresses : ℕ → ℕ → List ℕ
addresses src dst = big_bytes 4 src ++ big_bytes 4 dst

-- the pseudo header over IPv4: the two addresses, zero, the protocol and the segment's length (RFC 768; RFC 793, section 3.1)
unfoldable pub pseudo_ipv4 : List ℕ → ℕ → ℕ → List ℕ
pseudo_ipv4 addresses protocol len = addresses ++ (0 ∷ protocol ∷ big_bytes 2 len)

-- the pseudo header over IPv6: the two addresses, the segment's length, three zeros and the next header (RFC 8200, section 8.1)
unfoldable pub pseudo_ipv6 : List ℕ → ℕ → ℕ → List ℕ
pseudo_ipv6 addresses protocol len = addresses ++ (big_bytes 4 len ++ (0 ∷ 0 ∷ 0 ∷ protocol ∷ []))

-- the pseudo header of a segment, by the header that stands directly before it: without addresses where that is none of IP
abbrev pub pseudo_header : Option Layer → ℕ → ℕ → List ℕ
pseudo_header (Some (Ipv4 tos id frag ttl proto src dst)) protocol len = pseudo_ipv4 (addresses src dst) protocol len
pseudo_header (Some (Ipv6 class label hop next src dst)) protocol len = pseudo_ipv6 (src ++ dst) protocol len
pseudo_header _ protocol len = pseudo_ipv4 [] protocol len

-- A header, given its fields before and behind the checksum. The checksum is that of the pseudo header, of the header with zeros in
-- its place, and of the payload (RFC 791, section 3.1; RFC 768; RFC 793, section 3.1), and is written as `written` says.
unfoldable pub sealed : (ℕ → ℕ) → List ℕ → List ℕ → List ℕ → List ℕ → List ℕ
sealed written pseudo front back payload =
    front ++ (big_bytes 2 (written (checksum_of (pseudo ++ (front ++ ((0 ∷ 0 ∷ back) ++ payload))))) ++ back)

-- an IPv4 header of 20 bytes up to its checksum: version 4 and 5 words, type of service, total length, identification, flags and
-- fragment offset, time to live, protocol (RFC 791, section 3.1)
unfoldable pub ipv4_front : ℕ → ℕ → ℕ → ℕ → ℕ → ℕ → List ℕ
ipv4_front tos total id frag ttl proto = (0x45 ∷ tos ∷ []) ++ (big_bytes 2 total ++ (big_bytes 2 id ++ (big_bytes 2 frag ++ (ttl ∷ proto ∷ []))))

-- an IPv6 header of 40 bytes up to its addresses: version 6, traffic class and flow label, the length of what follows the header, next
-- header, hop limit (RFC 8200, section 3)
unfoldable pub ipv6_front : ℕ → ℕ → ℕ → ℕ → ℕ → List ℕ
ipv6_front class label len next hop =
    big_bytes 4 (0x60000000 + 0x100000 * class + label % 0x100000) ++ (big_bytes 2 len ++ (next ∷ hop ∷ []))

-- a TCP header of 20 bytes up to its checksum: ports, sequence and acknowledgment number, 5 words, flags, window (RFC 793, section 3.1)
unfoldable pub tcp_front : ℕ → ℕ → ℕ → ℕ → ℕ → ℕ → List ℕ
tcp_front sport dport seq ack flags window =
    big_bytes 2 sport ++ (big_bytes 2 dport ++ (big_bytes 4 seq ++ (big_bytes 4 ack ++ ((0x50 ∷ flags ∷ []) ++ big_bytes 2 window))))

-- behind its checksum: the urgent pointer, 0
abbrev pub tcp_back : List ℕ
tcp_back = 0 ∷ 0 ∷ []

-- a UDP header up to its checksum: ports and length (RFC 768)
unfoldable pub udp_front : ℕ → ℕ → ℕ → List ℕ
udp_front sport dport len = big_bytes 2 sport ++ (big_bytes 2 dport ++ big_bytes 2 len)

-- the header of a layer, given the layer before it, the layer that follows and all bytes that follow
abbrev pub header_of : Option Layer → Layer → Option Layer → List ℕ → List ℕ
header_of before (Ethernet dst src etype) next payload = dst ++ (src ++ big_bytes 2 (type_before next etype))
header_of before (Vlan tci etype) next payload = big_bytes 2 tci ++ big_bytes 2 (type_before next etype)
header_of before (Ipv4 tos id frag ttl proto src dst) next payload =
    sealed (λ n. n) [] (ipv4_front tos (20 + length payload) id frag ttl (protocol_before next proto)) (addresses src dst) []
header_of before (Ipv6 class label hop own src dst) next payload =
    ipv6_front class label (length payload) (protocol_before next own) hop ++ (src ++ dst)
header_of before (Tcp sport dport seq ack flags window) next payload =
    sealed (λ n. n) (pseudo_header before 6 (20 + length payload)) (tcp_front sport dport seq ack flags window) tcp_back payload
header_of before (Udp sport dport) next payload =
    sealed ones_for_zero (pseudo_header before 17 (8 + length payload)) (udp_front sport dport (8 + length payload)) [] payload
header_of before (Raw bytes) next payload = bytes
