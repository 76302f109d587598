-- The count of what is sent. Own.
use Rattle.std.specs.Prelude.{ℕ, ◌+◌, ◌*◌, ◌≤◌, List, [], ◌∷◌, slice_get, slice_set}
use Rattle.std.specs.List.{AllByRecursion}
use Rattle.std.specs.Option.{option_map_or}
use Rattle.trex_core.specs.declared.waiting.Waiting.{Waiting}
use Rattle.trex_report.specs.declared.report.Tally.{Tally}

-- a tally with one packet of so many bytes more
abbrev pub one_more : ℕ → Tally → Tally
one_more bytes t = record { id = t.id; packets = t.packets + 1; bytes = t.bytes + bytes }

-- the tallies with one packet more of the stream at a position, if there is such a stream
abbrev pub counted : List Tally → ℕ → ℕ → List Tally
counted tallies position bytes =
    option_map_or (λ t. slice_set tallies position (one_more bytes t)) (slice_get tallies position) tallies

-- the tallies with some packets more
abbrev pub all_counted : List Tally → List Waiting → List Tally
all_counted tallies [] = tallies
all_counted tallies (packet ∷ packets) = all_counted (counted tallies packet.key.stream packet.length) packets

-- tallies of at most so many packets, each of at most 9,216 bytes
abbrev pub AtMostPackets : ℕ → List Tally → Type 0
AtMostPackets packets tallies = AllByRecursion (λ (t : Tally). (t.packets ≤ packets) × (t.bytes ≤ 9216 * packets)) tallies
