-- The records of packets (pcap 2.4, packet record).
use Rattle.std.specs.Prelude.{ℕ, ◌+◌, ◌*◌, ◌^◌, List, map}
use Rattle.std.specs.List.{flat_map}
use Rattle.trex_merge.specs.Frames.{Frame}
use Rattle.trex_pcap.specs.Writing.{Packet, record_of}

-- a packet with its absolute time: the base is in seconds since 1970
abbrev pub packet_at : ℕ → Frame → Packet
packet_at base frame = record { time = base * 10 ^ 9 + frame.time; bytes = frame.bytes }

-- the records of packets, one after another
abbrev pub records_text : ℕ → List Frame → List ℕ
records_text base frames = flat_map record_of (map (packet_at base) frames)
