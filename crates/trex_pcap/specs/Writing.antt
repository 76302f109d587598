-- A capture's text (pcap 2.4): a file header, and for each packet a record header and the packet.
use Rattle.std.specs.Prelude.{ℕ, ◌*◌, ◌/◌, ◌%◌, ◌^◌, ◌<◌, ◌≤◌, List, [], ◌∷◌, ◌++◌, length}
use Rattle.std.specs.List.{flat_map}
use Rattle.byteorder.specs.Endian.{little_bytes}
use Rattle.trex_io.specs.Seen.{Seen}

-- The file header (pcap 2.4, file header): the magic of nanosecond captures, version 2.4, two unused numbers, the snapshot
-- length, and the link type of Ethernet.
unfoldable pub file_header : List ℕ
file_header =
    little_bytes 4 2712812621 ++ little_bytes 2 2 ++ little_bytes 2 4 ++ little_bytes 4 0 ++ little_bytes 4 0
    ++ little_bytes 4 262144 ++ little_bytes 4 1

-- The header of a packet of so many bytes at a time in nanoseconds (pcap 2.4, packet record): seconds, nanoseconds, captured
-- and original length.
unfoldable pub record_header_of : ℕ → ℕ → List ℕ
record_header_of time length =
    little_bytes 4 (time / 10 ^ 9) ++ little_bytes 4 (time % 10 ^ 9) ++ little_bytes 4 length ++ little_bytes 4 length

-- a packet, with its time in nanoseconds since 1970
pub record Packet : Type 0 where
  pub time : ℕ
  pub bytes : List ℕ

-- the record of a packet: its header, and its bytes
abbrev pub record_of : Packet → List ℕ
record_of packet = record_header_of packet.time (length packet.bytes) ++ packet.bytes

-- the capture of some packets
abbrev pub capture_of : List Packet → List ℕ
capture_of packets = file_header ++ flat_map record_of packets

-- a packet as a reader of its capture sees it
abbrev pub seen_of : Packet → Seen
seen_of packet = record { time = packet.time; bytes = packet.bytes; original = length packet.bytes }

-- each packet fits a record: its seconds fit 32 bits, and it is no longer than the snapshot length
abbrev pub AllFit : List Packet → Type 0
AllFit [] = Unit {0}
AllFit (p ∷ ps) = (p.time < 2 ^ 32 * 10 ^ 9) × (length p.bytes ≤ 262144) × AllFit ps
