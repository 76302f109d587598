-- The order in which layers may stand, for either version of IP. Own.
use Rattle.std.specs.Prelude.{ℕ, ◌-◌, ◌==◌, ◌&&◌, not, nat_lt, Bool, true, false, List, [], ◌∷◌, ◌++◌, length, slice_get, count_by, Option, None, Some, if◌then◌else◌}
use Rattle.trex_headers.specs.declared.layer.Version.{Version}
use Rattle.trex_headers.specs.declared.layer.Version.TheVariants.{V4, V6}
use Rattle.trex_headers.specs.Layer.{Layer, Ethernet, Vlan, Ipv4, Ipv6, Tcp, Udp, Raw}

-- a layer whose type names what follows: Ethernet or a tag
abbrev pub is_link : Layer → Bool
is_link (Ethernet dst src etype) = true
is_link (Vlan tci etype) = true
is_link _ = false

-- a tag
abbrev pub is_tag : Layer → Bool
is_tag (Vlan tci etype) = true
is_tag _ = false

-- an IPv4 header
abbrev pub is_ipv4 : Layer → Bool
is_ipv4 (Ipv4 tos id frag ttl proto src dst) = true
is_ipv4 _ = false

-- an IPv6 header
abbrev pub is_ipv6 : Layer → Bool
is_ipv6 (Ipv6 class label hop next src dst) = true
is_ipv6 _ = false

-- the IP header of a version
abbrev pub is_network : Version → Layer → Bool
is_network V4 one = is_ipv4 one
is_network V6 one = is_ipv6 one

-- a TCP or UDP header
abbrev pub is_segment : Layer → Bool
is_segment (Tcp sport dport seq ack flags window) = true
is_segment (Udp sport dport) = true
is_segment _ = false

-- a payload
abbrev pub is_payload : Layer → Bool
is_payload (Raw bytes) = true
is_payload _ = false

-- a packet may end in this layer: over IPv6 only behind its header
abbrev pub may_end : Version → Layer → Bool
may_end V4 one = true
may_end V6 one = not (is_link one)

-- a payload may follow this layer
abbrev pub may_carry : Version → Layer → Bool
may_carry version one = may_end version one && not (is_payload one)

-- there is a last layer, and it is one of these
abbrev pub ends_in : (Layer → Bool) → List Layer → Bool
ends_in test before = last (slice_get before (length before - 1))
  where
    last : Option Layer → Bool
    last None = false
    last (Some layer) = test layer

-- A layer may stand behind those before it: first Ethernet, then at most two tags, then the IP header of the version, then TCP or UDP
-- behind it, then the payload. None but a tag stands twice.
abbrev pub may_stand : Version → List Layer → Layer → Bool
may_stand version before (Ethernet dst src etype) = length before == 0
may_stand version before (Vlan tci etype) = ends_in is_link before && nat_lt (count_by is_tag before) 2
may_stand version before (Ipv4 tos id frag ttl proto src dst) = is_network version (Ipv4 tos id frag ttl proto src dst) && ends_in is_link before
may_stand version before (Ipv6 class label hop next src dst) = is_network version (Ipv6 class label hop next src dst) && ends_in is_link before
may_stand version before (Tcp sport dport seq ack flags window) = ends_in (is_network version) before
may_stand version before (Udp sport dport) = ends_in (is_network version) before
may_stand version before (Raw bytes) = ends_in (may_carry version) before

-- the place of the first of the later layers that can't stand behind those before it, or the number of all where they can't end so
abbrev pub misplaced_behind : Version → List Layer → List Layer → Option ℕ
misplaced_behind version before [] = if ends_in (may_end version) before then None else Some (length before)
misplaced_behind version before (one ∷ later) =
    if may_stand version before one then misplaced_behind version (before ++ one ∷ []) later else Some (length before)

-- the place of the first layer that can't stand where it does, or the number of layers where the packet can't end there
abbrev pub misplaced : Version → List Layer → Option ℕ
misplaced version layers = misplaced_behind version [] layers
