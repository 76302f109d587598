-- Where the IP header of a version has what the checksum of a segment behind it covers, and what it covers of it.
use Rattle.std.specs.Prelude.{ℕ, List}
use Rattle.trex_headers.specs.declared.layer.Version.{Version}
use Rattle.trex_headers.specs.declared.layer.Version.TheVariants.{V4, V6}
use Rattle.trex_headers.specs.Header.{pseudo_ipv4, pseudo_ipv6}

pub record Network : Type 0 where
  -- the place of the length: the total length of IPv4, the payload length of IPv6
  pub length : ℕ
  -- the place of the protocol or the next header
  pub protocol : ℕ
  -- where the two addresses begin, and where they and the header end
  pub addresses : ℕ
  pub end : ℕ
  -- the pseudo header, by addresses, protocol and the segment's length
  pub pseudo : List ℕ → ℕ → ℕ → List ℕ

-- the header of 20 bytes of IPv4 (RFC 791, section 3.1), and that of IPv6 (RFC 8200, section 3)
abbrev pub network_of : Version → Network
network_of V4 = record { length = 2; protocol = 9; addresses = 12; end = 20; pseudo = pseudo_ipv4 }
network_of V6 = record { length = 4; protocol = 6; addresses = 8; end = 40; pseudo = pseudo_ipv6 }
