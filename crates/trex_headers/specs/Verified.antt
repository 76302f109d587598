-- That the headers of a packet verify, read from its bytes.
use Rattle.std.specs.Prelude.{◌≡◌, ℕ, ◌+◌, ◌-◌, IsTrue, List, ◌∷◌, ◌++◌, length, drop, slice_index, sum_by}
use Rattle.std.specs.List.{slice_range}
use Rattle.trex_sum.specs.Checksum.{sum_of, Verifies}
use Rattle.trex_headers.specs.declared.layer.Version.{Version}
use Rattle.trex_headers.specs.Layer.{Layer, Ipv6}
use Rattle.trex_headers.specs.Order.{is_ipv4, is_network, is_segment}
use Rattle.trex_headers.specs.Network.{Network, network_of}
use Rattle.trex_headers.specs.Built.{header_length}

-- the place behind the headers of some layers
abbrev pub place_behind : List Layer → ℕ
place_behind front = sum_by header_length front

-- what the checksum of a segment covers, where the IP header stands at `ip` and the segment goes to the packet's end: the pseudo header
-- and the segment
abbrev pub segment_behind : Network → ℕ → List ℕ → List ℕ
segment_behind net ip packet =
    net.pseudo (slice_range packet (ip + net.addresses) (ip + net.end)) (slice_index packet (ip + net.protocol)) (length packet - (ip + net.end))
    ++ drop (ip + net.end) packet

-- an IPv6 header has addresses of 16 bytes
abbrev pub IsSized : Layer → Type 0
IsSized (Ipv6 class label hop next src dst) = (length src ≡ 16) × (length dst ≡ 16)
IsSized _ = Unit {0}

-- each IPv4 header of the packet of some layers verifies, and each UDP or TCP segment behind the IP header of the version
pub record HeadersVerify (version : Version) (layers : List Layer) (packet : List ℕ) : Type 0 where
  pub ipv4 : (front : List Layer) (ip : Layer) (later : List Layer) → layers ≡ front ++ ip ∷ later → IsTrue (is_ipv4 ip)
      → Verifies (sum_of (slice_range packet (place_behind front) (place_behind front + 20)))
  pub segment : (front : List Layer) (ip segment : Layer) (later : List Layer) → layers ≡ front ++ ip ∷ segment ∷ later
      → IsTrue (is_network version ip) → IsSized ip → IsTrue (is_segment segment)
      → Verifies (sum_of (segment_behind (network_of version) (place_behind front) packet))
