-- The bytes that each stream of the sample sends: Ethernet (IEEE 802.3), IPv4 (RFC 791, section 3.1), UDP (RFC 768) and zeros behind them.
-- Which addresses and ports they have is the sample's own.
use Rattle.std.specs.Prelude.{ℕ, ◌+◌, List, [], ◌∷◌, ◌++◌}
use Rattle.std.proofs.Math.ListN.{replicate}
use Rattle.byteorder.specs.Endian.{big_bytes}
use Rattle.trex_sum.specs.Checksum.{checksum_of, ones_for_zero}
use Rattle.trex_headers.specs.Header.{pseudo_ipv4}
use Rattle.trex_headers.specs.Layer.{Layer, Ethernet, Ipv4, Udp, Raw}

-- the Ethernet header from 02:00:00:00:00:01 to 02:00:00:00:00:02, with the type of IPv4
abbrev pub ethernet : List ℕ
ethernet = 2 ∷ 0 ∷ 0 ∷ 0 ∷ 0 ∷ 2 ∷ 2 ∷ 0 ∷ 0 ∷ 0 ∷ 0 ∷ 1 ∷ 8 ∷ 0 ∷ []

-- the source 16.0.0.1, then the destination 48.0.0.1
abbrev pub addresses : List ℕ
addresses = 16 ∷ 0 ∷ 0 ∷ 1 ∷ 48 ∷ 0 ∷ 0 ∷ 1 ∷ []

-- the IPv4 header of a total length with a number in its checksum field: five words, no service, number or fragment, 64 hops, UDP
abbrev pub ipv4_with : ℕ → ℕ → List ℕ
ipv4_with total sum = (69 ∷ 0 ∷ []) ++ big_bytes 2 total ++ (0 ∷ 0 ∷ 0 ∷ 0 ∷ 64 ∷ 17 ∷ []) ++ big_bytes 2 sum ++ addresses

-- the same with its checksum
unfoldable pub ipv4 : ℕ → List ℕ
ipv4 total = ipv4_with total (checksum_of (ipv4_with total 0))

-- the UDP header from port 1025 to port 12 of a segment's length, with a number in its checksum field
abbrev pub udp_with : ℕ → ℕ → List ℕ
udp_with segment sum = (4 ∷ 1 ∷ 0 ∷ 12 ∷ []) ++ big_bytes 2 segment ++ big_bytes 2 sum

-- so many zeros
abbrev pub zeros : ℕ → List ℕ
zeros count = replicate count 0

-- the checksum of a UDP segment of so many zeros, over the pseudo header, the header and the zeros; all ones stand for none
unfoldable pub udp_sum : ℕ → ℕ
udp_sum pad = ones_for_zero (checksum_of (pseudo_ipv4 addresses 17 (8 + pad) ++ udp_with (8 + pad) 0 ++ zeros pad))

-- the UDP header in front of so many zeros, with its checksum
unfoldable pub udp : ℕ → List ℕ
udp pad = udp_with (8 + pad) (udp_sum pad)

-- the template with so many zeros behind its headers
unfoldable pub template : ℕ → List ℕ
template pad = ethernet ++ ipv4 (28 + pad) ++ udp pad ++ zeros pad

-- the same as layers
abbrev pub layers : ℕ → List Layer
layers pad =
    Ethernet (2 ∷ 0 ∷ 0 ∷ 0 ∷ 0 ∷ 2 ∷ []) (2 ∷ 0 ∷ 0 ∷ 0 ∷ 0 ∷ 1 ∷ []) 34997
    ∷ Ipv4 0 0 0 64 253 268435457 805306369
    ∷ Udp 1025 12
    ∷ Raw (zeros pad)
    ∷ []
