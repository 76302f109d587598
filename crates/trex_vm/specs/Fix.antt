-- Checksums of headers, taken from scratch.
use Rattle.std.specs.Prelude.{ℕ, ◌+◌, ◌-◌, ◌*◌, ◌%◌, Bool, ◌&&◌, nat_le, if◌then◌else◌, List, [], ◌∷◌, ◌++◌, length, drop, slice_index}
use Rattle.std.specs.List.{slice_range}
use Rattle.byteorder.specs.Endian.{big_bytes, big_number}
use Rattle.trex_fields.specs.Bytes.{put}
use Rattle.trex_sum.specs.Checksum.{sum_of, fold_of, ones_for_zero}
use Rattle.trex_layers.specs.declared.constants.TheConstants.{PROTOCOL_TCP, PROTOCOL_UDP, TCP_LEN, UDP_LEN}
use Rattle.trex_headers.specs.declared.constants.TheConstants.{IPV6_LEN}
use Rattle.trex_headers.specs.declared.layer.Version.{Version as IpVersion}
use Rattle.trex_headers.specs.declared.layer.Version.TheVariants.{V4, V6}
use Rattle.trex_headers.specs.Network.{network_of}
use Rattle.trex_vm.specs.declared.effect.Fix.{Fix}
use Rattle.trex_vm.specs.declared.effect.Fix.TheVariants.{Header, Segment}
use Rattle.trex_vm.specs.declared.effect.Span.{Span}
use Rattle.trex_vm.specs.declared.instr.L4Kind.{L4Kind}
use Rattle.trex_vm.specs.declared.instr.L4Kind.TheVariants.{Tcp, Udp}

-- the bytes with the checksum of a part of them at `field`: the field is set to zero, the part is summed from scratch,
-- and the complement of the fold is written there as `written` says (RFC 1071, section 1)
unfoldable pub with_checksum : (ℕ → ℕ) → (List ℕ → List ℕ) → ℕ → List ℕ → List ℕ
with_checksum written part field bytes =
    let zeroed = put field (0 ∷ 0 ∷ []) bytes in
    put field (big_bytes 2 (written (65535 - fold_of (sum_of (part zeroed))))) zeroed

-- the length of an IP header, by its first byte: IPv4's lower four bits count words of four bytes (RFC 791, section 3.1), IPv6's is fixed
-- (RFC 8200, section 3)
abbrev pub network_length : IpVersion → ℕ → ℕ
network_length V4 first = first % 16 * 4
network_length V6 first = IPV6_LEN

-- the length of the IPv4 header at a place
abbrev pub header_length : List ℕ → ℕ → ℕ
header_length bytes at = network_length V4 (slice_index bytes at)

-- the IPv4 header at a place (RFC 791, section 3.1)
unfoldable pub header_at : ℕ → List ℕ → List ℕ
header_at at bytes = slice_range bytes at (at + header_length bytes at)

-- the bytes with the IPv4 header at a place fixed (RFC 791, section 3.1)
abbrev pub fixed_ipv4 : ℕ → List ℕ → List ℕ
fixed_ipv4 at bytes = with_checksum (λ n. n) (header_at at) (at + 10) bytes

-- the protocol or next header of a segment (RFC 790; RFC 8200, section 3)
abbrev pub protocol_of : L4Kind → ℕ
protocol_of Tcp = PROTOCOL_TCP
protocol_of Udp = PROTOCOL_UDP

-- the least bytes of a segment: TCP's header without options (RFC 793, section 3.1), UDP's header (RFC 768)
abbrev pub least_segment : L4Kind → ℕ
least_segment Tcp = TCP_LEN
least_segment Udp = UDP_LEN

-- the place of the checksum in the segment (RFC 793, section 3.1; RFC 768)
abbrev pub sum_place : L4Kind → ℕ
sum_place Tcp = 16
sum_place Udp = 6

-- the checksum as it is written: a UDP checksum that comes out as zero is all ones (RFC 768; RFC 8200, section 8.1)
abbrev pub written_sum : L4Kind → ℕ → ℕ
written_sum Tcp n = n
written_sum Udp n = ones_for_zero n

-- the bytes that the length in the IP header leaves for the segment: IPv4's counts the header (RFC 791, section 3.1), IPv6's doesn't
-- (RFC 8200, section 3)
abbrev pub left_for_segment : IpVersion → ℕ → ℕ → ℕ
left_for_segment V4 header len = len - header
left_for_segment V6 header len = len

-- the segment's length: of TCP what the IP header leaves for it (RFC 793, section 3.1; RFC 8200, section 8.1), of UDP its length field (RFC 768)
abbrev pub segment_length : IpVersion → L4Kind → ℕ → ℕ → List ℕ → ℕ
segment_length version Tcp ip header bytes = left_for_segment version header (big_number 2 (drop (ip + (network_of version).length) bytes))
segment_length version Udp ip header bytes = big_number 2 (drop (ip + header + 4) bytes)

-- the segment has its header, and ends within the bytes. Own
abbrev pub segment_fits : IpVersion → L4Kind → ℕ → ℕ → List ℕ → Bool
segment_fits version kind ip header bytes =
    let len = segment_length version kind ip header bytes in
    nat_le (least_segment kind) len && nat_le (ip + header + len) (length bytes)

-- the pseudo header of a segment of so many bytes behind the IP header at `ip` (RFC 768; RFC 793, section 3.1; RFC 8200, section 8.1)
abbrev pub pseudo_header : IpVersion → ℕ → ℕ → List ℕ → List ℕ
pseudo_header version ip len bytes =
    let net = network_of version in
    net.pseudo (slice_range bytes (ip + net.addresses) (ip + net.end)) (slice_index bytes (ip + net.protocol)) len

-- what the checksum covers: the pseudo header, then the segment (RFC 768; RFC 793, section 3.1; RFC 8200, section 8.1)
unfoldable pub segment_at : IpVersion → L4Kind → ℕ → ℕ → List ℕ → List ℕ
segment_at version kind ip header bytes =
    let len = segment_length version kind ip header bytes in
    pseudo_header version ip len bytes ++ slice_range bytes (ip + header) (ip + header + len)

-- the bytes with the TCP or UDP segment behind the IP header at `ip` fixed; a segment that doesn't fit is left as it is
abbrev pub fixed_segment : IpVersion → L4Kind → ℕ → ℕ → List ℕ → List ℕ
fixed_segment version kind ip header bytes =
    if segment_fits version kind ip header bytes
    then with_checksum (written_sum kind) (segment_at version kind ip header) (ip + header + sum_place kind) bytes
    else bytes

-- the field of the checksum that a fix writes
abbrev pub field_of : Fix → Span
field_of (Header at) = record { at = at + 10; size = 2 }
field_of (Segment version ip header kind) = record { at = ip + header + sum_place kind; size = 2 }

-- the bytes with the checksum of a fix written
abbrev pub fixed : Fix → List ℕ → List ℕ
fixed (Header at) bytes = fixed_ipv4 at bytes
fixed (Segment version ip header kind) bytes = fixed_segment version kind ip header bytes

-- the place of the IP header that a fix names
abbrev pub header_of : Fix → ℕ
header_of (Header at) = at
header_of (Segment version ip header kind) = ip

-- the version of that header
abbrev pub ip_version : Fix → IpVersion
ip_version (Header at) = V4
ip_version (Segment version ip header kind) = version

-- the place of its protocol or next header
abbrev pub protocol_place : Fix → ℕ
protocol_place fix = header_of fix + (network_of (ip_version fix)).protocol
