-- What becomes of an import: the streams that its text says, and what a run of them sends. Own.
use Rattle.std.specs.Prelude.{◌≡◌, ℕ, ◌+◌, ◌*◌, ◌^◌, ◌≤◌, true, List, [], length, None}
use Rattle.trex_import.specs.Imported.{first_time, for_each}
use Rattle.trex_io.specs.Seen.{Seen}
use Rattle.trex_merge.specs.Frames.{Frame}
use Rattle.trex_pcap.specs.Writing.{Packet}
use Rattle.trex_profile.specs.declared.raw.RateKind.TheVariants.{Pps}
use Rattle.trex_profile.specs.Stream.{Stream}
use Rattle.trex_sched.specs.declared.mode.Mode.TheVariants.{SingleBurst}
use Rattle.trex_words.specs.declared.asked.RunAsk.{RunAsk}

-- the stream of this id that sends these bytes once, so many nanoseconds from the start
abbrev pub once : ℕ → ℕ → List ℕ → Stream
once id ns bytes = record {
  id = id;
  enabled = true;
  self_start = true;
  isg = ns;
  next = None;
  action_count = 0;
  seed = 0;
  template = bytes;
  rate = record { kind = Pps; value = 10 ^ 15 };
  mode = SingleBurst 1;
  flow = None;
  instrs = [];
}

-- the streams of some records: one for each, with its time since the first
abbrev pub streams_of : List Seen → List Stream
streams_of records = for_each once (first_time records) 1 records

-- the packet of the stream at a position that sends these bytes once, so many nanoseconds from the start
abbrev pub sent_once : ℕ → ℕ → List ℕ → Frame
sent_once position ns bytes = record { time = ns; stream = position; number = 0; bytes = bytes }

-- the packets of the streams of some records, in their order
abbrev pub sent_again : List Seen → List Frame
sent_again records = for_each sent_once (first_time records) 0 records

-- a packet of these bytes, so many nanoseconds after the base, which is in seconds since 1970
abbrev pub packet_after : ℕ → ℕ → ℕ → List ℕ → Packet
packet_after base number ns bytes = record { time = base * 10 ^ 9 + ns; bytes = bytes }

-- the records once more, as packets whose times count from the base as the records' do from the first
abbrev pub resent : ℕ → List Seen → List Packet
resent base records = for_each (packet_after base) (first_time records) 1 records

-- a run for the longest duration, of no fewer packets than there are records
pub record RunsThrough (ask : RunAsk) (records : List Seen) : Type 0 where
  pub duration : ask.duration ≡ 10 ^ 18
  pub limit : length records ≤ ask.limit
