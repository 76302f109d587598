-- Which programs are accepted: one test a rule, over the variables, the template's bytes and the instructions. Own.
use Rattle.std.specs.Prelude.{ℕ, ◌+◌, ◌-◌, ◌/◌, ◌==◌, Bool, false, not, ◌&&◌, ◌||◌, nat_le, nat_lt, List, length, map, slice_index, Option, is_some}
use Rattle.std.specs.List.{list_any, count_by}
use Rattle.std.specs.Option.{option_map_or}
use Rattle.trex_layers.specs.declared.sizes.TheConstants.{SHORTEST_PACKET}
use Rattle.trex_headers.specs.declared.layer.Version.{Version as IpVersion}
use Rattle.trex_headers.specs.declared.layer.Version.TheVariants.{V4, V6}
use Rattle.trex_headers.specs.Network.{network_of}
use Rattle.trex_stamp.specs.declared.header.Version.{Version}
use Rattle.trex_stamp.specs.Stamp.{shortest_stamped, size_of}
use Rattle.trex_vars.specs.Variable.{Variable}
use Rattle.trex_vars.specs.Bounds.{least, greatest}
use Rattle.trex_vm.specs.declared.effect.Fix.{Fix}
use Rattle.trex_vm.specs.declared.effect.Fix.TheVariants.{Header, Segment}
use Rattle.trex_vm.specs.declared.instr.Instr.{Instr}
use Rattle.trex_vm.specs.declared.instr.Operand.{Operand}
use Rattle.trex_vm.specs.Effect.{end_of, write_of, fix_of, trim_of, writes_byte}
use Rattle.trex_vm.specs.Fix.{header_of, least_segment, network_length, protocol_of, protocol_place}
use Rattle.trex_vm.specs.Write.{number_in}
use Rattle.trex_vm.specs.Packet.{trimmed}

-- the length of the shortest packet: the least number of the trim, or the whole template's length where there is none
abbrev pub least_length : List Variable → List Instr → ℕ → ℕ
least_length vars instrs whole = trimmed (map least vars) instrs whole

-- the bytes of the latency header, where there is one
abbrev pub header_size : Option Version → ℕ
header_size stamp = option_map_or size_of stamp 0

-- the bytes of the shortest packet in front of its latency header
abbrev pub room_of : ℕ → Option Version → ℕ
room_of shortest stamp = shortest - header_size stamp

-- the shortest packet is too short to end in the latency header
abbrev pub no_room_for_stamp : ℕ → Option Version → Bool
no_room_for_stamp shortest stamp = option_map_or (λ version. nat_lt shortest (shortest_stamped version)) stamp false

-- the instruction cuts the packet
abbrev pub is_trim : Instr → Bool
is_trim instr = is_some (trim_of instr)

-- an operand whose least number is below the shortest packet's length, or whose greatest is above the template's
abbrev pub cuts_wrong : List Variable → ℕ → Operand → Bool
cuts_wrong vars whole from = nat_lt (number_in (map least vars) from) SHORTEST_PACKET || nat_lt whole (number_in (map greatest vars) from)

-- a trim that is out of its range
abbrev pub trim_wrong : List Variable → ℕ → Instr → Bool
trim_wrong vars whole instr = option_map_or (cuts_wrong vars whole) (trim_of instr) false

-- a write that ends after the room
abbrev pub writes_past : ℕ → Instr → Bool
writes_past room instr = option_map_or (λ span. nat_lt room (end_of span)) (write_of instr) false

-- the upper four bits of an IP header's first byte (RFC 791, section 3.1; RFC 8200, section 3)
abbrev pub number_of : IpVersion → ℕ
number_of V4 = 4
number_of V6 = 6

-- an IP header stands at a place and ends within the room: it has the version's number, and not fewer bytes than without options
abbrev pub has_network : IpVersion → List ℕ → ℕ → ℕ → Bool
has_network version bytes room at =
    let least = (network_of version).end in
    let first = slice_index bytes at in
    nat_le (at + least) room && (first / 16 == number_of version) && nat_le least (network_length version first)
    && nat_le (at + network_length version first) room

-- a fix finds its header: for a segment the IP header has the length as given and the protocol or next header, and the segment's own header
-- ends within the room
abbrev pub finds_header : List ℕ → ℕ → Fix → Bool
finds_header bytes room (Header at) = has_network V4 bytes room at
finds_header bytes room (Segment version ip header kind) =
    has_network version bytes room ip && (header == network_length version (slice_index bytes ip))
    && (slice_index bytes (ip + (network_of version).protocol) == protocol_of kind) && nat_le (ip + header + least_segment kind) room

-- a fix that has no header to fix
abbrev pub misses_header : List ℕ → ℕ → Instr → Bool
misses_header bytes room instr = option_map_or (λ fix. not (finds_header bytes room fix)) (fix_of instr) false

-- the instruction writes the first byte, or the protocol or next header, of the header that a fix names: of IPv4 byte 0 or 9, of IPv6 byte 0 or 6
abbrev pub overwrites_kind : Instr → Fix → Bool
overwrites_kind instr fix = writes_byte instr (header_of fix) || writes_byte instr (protocol_place fix)

-- the same of the header that another instruction names, where that is a fix
abbrev pub overwrites_kind_of : Instr → Instr → Bool
overwrites_kind_of instr other = option_map_or (overwrites_kind instr) (fix_of other) false

-- the same of a header that a fix of the list names
abbrev pub overwrites_header_kind : List Instr → Instr → Bool
overwrites_header_kind instrs instr = list_any (overwrites_kind_of instr) instrs

-- a program is accepted: at most one trim, and that in its range, room for the latency header, and no instruction that breaks a rule
abbrev pub accepts : List Variable → List ℕ → Option Version → List Instr → Bool
accepts vars template stamp instrs =
    let shortest = least_length vars instrs (length template) in
    let room = room_of shortest stamp in
    nat_le (count_by is_trim instrs) 1 && not (list_any (trim_wrong vars (length template)) instrs) && not (no_room_for_stamp shortest stamp)
    && not (list_any (writes_past room) instrs) && not (list_any (misses_header template room) instrs)
    && not (list_any (overwrites_header_kind instrs) instrs)
