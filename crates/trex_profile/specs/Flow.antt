-- The flows of streams, and what a flow's latency headers say (own).
use Rattle.std.specs.Prelude.{ℕ, ◌%◌, ◌<◌, ◌^◌}
use Rattle.trex_stamp.specs.declared.header.Stamp.{Stamp}
use Rattle.trex_stamp.specs.declared.header.Version.{Version}
use Rattle.trex_stamp.specs.declared.header.Version.TheVariants.{One, Two}
use Rattle.trex_stamp.specs.Stamp.{flow_size}
use Rattle.trex_profile.specs.declared.flow.Flow.{Flow}

-- the number fits the headers: in version 1 it is below 2^16, in version 2 below 2^32
abbrev pub IsFlow : Flow → Type 0
IsFlow flow = flow.number < 256 ^ flow_size flow.version

-- the sequence of the packet of a number: the number, in version 1 modulo 2^32
abbrev pub sequence_of : Version → ℕ → ℕ
sequence_of One number = number % 2 ^ 32
sequence_of Two number = number

-- the latency header of the flow's packet of a number at an absolute time in nanoseconds
abbrev pub stamp_with : Flow → ℕ → ℕ → Stamp
stamp_with flow number time =
    record { version = flow.version; flow = flow.number; sequence = sequence_of flow.version number; time = time }
