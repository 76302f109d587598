-- The latency headers, in two versions, that stand at the end of a stamped packet. Own: no public standard has them.
use Rattle.std.specs.Prelude.{ℕ, Bool, ◌+◌, ◌-◌, ◌^◌, ◌<◌, ◌&&◌, nat_eq, nat_le, if◌then◌else◌, List, [], ◌∷◌, ◌++◌, length, drop, Option, Some, None}
use Rattle.std.specs.List.{starts_with}
use Rattle.byteorder.specs.Endian.{big_bytes, big_number}
use Rattle.trex_stamp.specs.declared.header.Stamp.{Stamp}
use Rattle.trex_stamp.specs.declared.header.TheConstants.{ETHERNET_LEN, SIZE_ONE, SIZE_TWO}
use Rattle.trex_stamp.specs.declared.header.Version.{Version}
use Rattle.trex_stamp.specs.declared.header.Version.TheVariants.{One, Two}

-- the length of a header in bytes
abbrev pub size_of : Version → ℕ
size_of One = SIZE_ONE
size_of Two = SIZE_TWO

-- the length in bytes of the shortest packet that ends in a header
abbrev pub shortest_stamped : Version → ℕ
shortest_stamped version = ETHERNET_LEN + size_of version

-- the bytes that a header begins with: 0xab and the version, and two zero bytes in version 2
abbrev pub marks : Version → List ℕ
marks One = 0xab ∷ 1 ∷ []
marks Two = 0xab ∷ 2 ∷ 0 ∷ 0 ∷ []

-- the bytes that the flow takes in a header
abbrev pub flow_size : Version → ℕ
flow_size One = 2
flow_size Two = 4

-- the bytes that the sequence takes in a header
abbrev pub sequence_size : Version → ℕ
sequence_size One = 4
sequence_size Two = 8

-- the numbers of a stamp fit its version's header: for version 1 a flow below 2^16 and a sequence below 2^32, for version 2 below 2^32 and 2^64
pub record IsStamp (s : Stamp) : Type 0 where
  pub flow : s.flow < 256 ^ flow_size s.version
  pub sequence : s.sequence < 256 ^ sequence_size s.version
  pub time : s.time < 256 ^ 8

-- a header's bytes: its marks, then flow, sequence and time in network byte order
abbrev pub stamp_bytes : Stamp → List ℕ
stamp_bytes s =
    marks s.version ++ (big_bytes (flow_size s.version) s.flow ++ (big_bytes (sequence_size s.version) s.sequence ++ big_bytes 8 s.time))

-- the place of the flow in a header, of the sequence, and of the time
abbrev pub flow_place : Version → ℕ
flow_place version = length (marks version)

abbrev pub sequence_place : Version → ℕ
sequence_place version = flow_place version + flow_size version

abbrev pub time_place : Version → ℕ
time_place version = sequence_place version + sequence_size version

-- the stamp that the bytes of a header spell
abbrev pub spelled : Version → List ℕ → Stamp
spelled version header = record {
  version = version;
  flow = big_number (flow_size version) (drop (flow_place version) header);
  sequence = big_number (sequence_size version) (drop (sequence_place version) header);
  time = big_number 8 (drop (time_place version) header);
}

-- the last so many bytes of a packet
abbrev pub last_bytes : ℕ → List ℕ → List ℕ
last_bytes count packet = drop (length packet - count) packet

-- a packet ends in a header of the version: its last bytes begin with the version's marks
abbrev pub ends_in : Version → List ℕ → Bool
ends_in version packet =
    nat_le (size_of version) (length packet) && starts_with nat_eq (last_bytes (size_of version) packet) (marks version)

-- the stamp that the last bytes of a packet spell
abbrev pub last_stamp : Version → List ℕ → Stamp
last_stamp version packet = spelled version (last_bytes (size_of version) packet)

-- the stamp at the end of a packet: version 1 is looked for first
abbrev pub stamp_of : List ℕ → Option Stamp
stamp_of packet =
    if ends_in One packet then Some (last_stamp One packet)
    else (if ends_in Two packet then Some (last_stamp Two packet) else None)
