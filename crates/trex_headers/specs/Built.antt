-- The packet of some layers. Own.
use Rattle.std.specs.Prelude.{◌≡◌, ℕ, ◌+◌, nat_lt, Bool, true, false, List, [], ◌∷◌, ◌++◌, length, slice_get, Option, None, Some, Result, Ok, Err}
use Rattle.trex_layers.specs.declared.sizes.TheConstants.{LONGEST_PACKET}
use Rattle.trex_headers.specs.declared.building.BuildFault.{BuildFault}
use Rattle.trex_headers.specs.declared.building.BuildFault.TheVariants.{Order, TooLong, Memory}
use Rattle.trex_headers.specs.declared.layer.Version.{Version}
use Rattle.trex_headers.specs.Layer.{Layer, Ethernet, Vlan, Ipv4, Ipv6, Tcp, Udp, Raw}
use Rattle.trex_headers.specs.Header.{header_of}
use Rattle.trex_headers.specs.Order.{misplaced}

-- the bytes of layers behind another layer: the first one's header, and what it carries
abbrev pub bytes_behind : Option Layer → List Layer → List ℕ
bytes_behind before [] = []
bytes_behind before (one ∷ later) =
    let payload = bytes_behind (Some one) later in
    header_of before one (slice_get later 0) payload ++ payload

-- the packet of some layers
abbrev pub built : List Layer → List ℕ
built layers = bytes_behind None layers

-- the length of a layer's header (IEEE 802.3, 3.1.1; IEEE 802.1Q, 9.6; RFC 791, section 3.1; RFC 8200, section 3; RFC 793, section 3.1;
-- RFC 768)
abbrev pub header_length : Layer → ℕ
header_length (Ethernet dst src etype) = length dst + length src + 2
header_length (Vlan tci etype) = 4
header_length (Ipv4 tos id frag ttl proto src dst) = 20
header_length (Ipv6 class label hop next src dst) = 8 + (length src + length dst)
header_length (Tcp sport dport seq ack flags window) = 20
header_length (Udp sport dport) = 8
header_length (Raw bytes) = length bytes

-- the packet has more bytes than a template may have
abbrev pub too_long : List Layer → Bool
too_long layers = nat_lt LONGEST_PACKET (length (built layers))

-- an answer is the packet, or else the first fault, unless memory ran out: the order is looked at, and then the length
abbrev pub Builds : {X : Type 0} → (X → List ℕ) → Result X BuildFault → Version → List Layer → Type 0
Builds view (Ok x) version layers = (misplaced version layers ≡ None) × ((too_long layers ≡ false) × (view x ≡ built layers))
Builds view (Err (Order at)) version layers = misplaced version layers ≡ Some at
Builds view (Err TooLong) version layers = (misplaced version layers ≡ None) × (too_long layers ≡ true)
Builds view (Err Memory) version layers = Unit {0}
