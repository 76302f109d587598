-- How long headers and packets are.
use Rattle.std.proofs.Common.{◌≡◌, ℕ, ◌+◌, nat_le, nat_lt, true, if◌then◌else◌, List, [], ◌∷◌, ◌++◌, length, slice_get, sum_by, Option, None, Some, refl, ap, ◌∙◌, arith, length-append}
use Rattle.std.proofs.lemmas.List.Sums.{sum_by-cons}
use Rattle.std.proofs.lemmas.Bool.Decides.{nat_tests}
use Rattle.trex_layers.specs.declared.sizes.TheConstants.{LONGEST_PACKET}
use Rattle.trex_headers.specs.Layer.{Layer, Ethernet, Vlan, Ipv4, Ipv6, Tcp, Udp, Raw}
use Rattle.trex_headers.specs.Header.{sealed, ipv4_front, ipv6_front, tcp_front, udp_front, protocol_before, header_of}
use Rattle.trex_headers.specs.Built.{bytes_behind, header_length, too_long}

-- a header is as long as its fields and its checksum
length-sealed : (written : ℕ → ℕ) (pseudo front back payload : List ℕ) → length (sealed written pseudo front back payload) ≡ length front + (2 + length back)
unfolding sealed
length-sealed written pseudo front back payload = length-append front _ ∙ omega arith

pub length-ipv4_front : (tos total id frag ttl proto : ℕ) → length (ipv4_front tos total id frag ttl proto) ≡ 10
unfolding ipv4_front
length-ipv4_front tos total id frag ttl proto = refl

pub length-ipv6_front : (class label len next hop : ℕ) → length (ipv6_front class label len next hop) ≡ 8
unfolding ipv6_front
length-ipv6_front class label len next hop = refl

pub length-tcp_front : (sport dport seq ack flags window : ℕ) → length (tcp_front sport dport seq ack flags window) ≡ 16
unfolding tcp_front
length-tcp_front sport dport seq ack flags window = refl

pub length-udp_front : (sport dport len : ℕ) → length (udp_front sport dport len) ≡ 6
unfolding udp_front
length-udp_front sport dport len = refl

-- a header is as long as its layer says
pub length-header_of : (before : Option Layer) (one : Layer) (next : Option Layer) (payload : List ℕ) → length (header_of before one next payload) ≡ header_length one
length-header_of before (Ethernet dst src etype) next payload = grind (arith, length-append)
length-header_of before (Vlan tci etype) next payload = refl
length-header_of before (Ipv4 tos id frag ttl proto src dst) next payload = length-sealed _ _ _ _ _ ∙ omega (arith, length-ipv4_front)
length-header_of before (Ipv6 class label hop own src dst) next payload =
    length-append (ipv6_front class label (length payload) (protocol_before next own) hop) (src ++ dst)
    ∙ omega (arith, length-ipv6_front class label (length payload) (protocol_before next own) hop, length-append src dst)
length-header_of before (Tcp sport dport seq ack flags window) next payload = length-sealed _ _ _ _ _ ∙ omega (arith, length-tcp_front)
length-header_of before (Udp sport dport) next payload = length-sealed _ _ _ _ _ ∙ omega (arith, length-udp_front)
length-header_of before (Raw bytes) next payload = refl

-- a packet is as long as its headers
pub length-bytes_behind : (before : Option Layer) (layers : List Layer) → length (bytes_behind before layers) ≡ sum_by header_length layers
length-bytes_behind before [] = refl
length-bytes_behind before (one ∷ later) =
    let payload = bytes_behind (Some one) later in
    let here = length-header_of before one (slice_get later 0) payload in
    let more = length-bytes_behind (Some one) later in
    length-append (header_of before one (slice_get later 0) payload) payload ∙ omega (arith, sum_by-cons header_length one later)

-- so it is too long by their lengths
pub too_long-by_length : (layers : List Layer) → too_long layers ≡ nat_lt LONGEST_PACKET (sum_by header_length layers)
too_long-by_length layers = ap (nat_lt LONGEST_PACKET) (length-bytes_behind None layers)

-- a length that is no greater than this one, or else none, where it is none
pub too_long-none : (layers : List Layer) → None ≡ (if nat_le (sum_by header_length layers) LONGEST_PACKET then Some (sum_by header_length layers) else None) → too_long layers ≡ true
too_long-none layers none = too_long-by_length layers ∙ by_test (sum_by header_length layers) none
  where
    by_test : (n : ℕ) → None ≡ (if nat_le n LONGEST_PACKET then Some n else None) → nat_lt LONGEST_PACKET n ≡ true
    by_test n none = grind (arith, nat_tests)
