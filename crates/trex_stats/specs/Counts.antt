-- What is counted of the records of a capture. Own.
use Rattle.std.specs.Prelude.{◌≡◌, ℕ, ◌+◌, ◌==◌, if◌then◌else◌, List, [], ◌∷◌, ◌++◌, length, map, count_by, is_some, option_map, Option, Some, None}
use Rattle.std.specs.List.{filter, filter_map, range_with_len, sum_by}
use Rattle.trex_io.specs.Seen.{Seen}
use Rattle.trex_stamp.specs.Stamp.{stamp_of}
use Rattle.trex_stamp.specs.declared.header.Stamp.{Stamp}
use Rattle.trex_stats.specs.declared.arrival.Arrival.{Arrival}
use Rattle.trex_stats.specs.declared.flow.Flow.{Flow}
use Rattle.trex_stats.specs.declared.glimpse.Glimpse.{Glimpse}
use Rattle.trex_stats.specs.declared.glimpse.Glimpse.TheVariants.{Plain, Stamped}
use Rattle.trex_stats.specs.declared.line.FlowLine.{FlowLine}
use Rattle.trex_stats.specs.declared.stats.Totals.{Totals}
use Rattle.trex_stats.specs.Arrivals.{greatest_of, line_of}
use Rattle.trex_stats.specs.Kept.{AreFlows, line_in}
use Rattle.trex_stats.specs.Ranges.{has}

-- the stamp at the end of captured bytes, where they are the whole packet
abbrev pub whole_stamp : List ℕ → ℕ → Option Stamp
whole_stamp bytes original = if length bytes == original then stamp_of bytes else None

-- the stamp of a record; a record that was cut short has none
abbrev pub stamp_at : Seen → Option Stamp
stamp_at r = whole_stamp r.bytes r.original

-- what the counts take of a record with this stamp, if any
abbrev pub glimpse_by : Option Stamp → Glimpse
glimpse_by None = Plain
glimpse_by (Some s) = Stamped s.flow s.sequence s.time

-- what the counts take of a record of these captured bytes and this original length
abbrev pub glimpse_of : List ℕ → ℕ → Glimpse
glimpse_of bytes original = glimpse_by (whole_stamp bytes original)

-- a packet with this stamp, that came at this time
abbrev pub arrival_of : ℕ → Stamp → Arrival
arrival_of came s = record { sequence = s.sequence; sent = s.time; came = came }

-- the same, where the stamp is there and of this flow
abbrev pub arrival_in : ℕ → ℕ → Option Stamp → Option Arrival
arrival_in flow came None = None
arrival_in flow came (Some s) = if s.flow == flow then Some (arrival_of came s) else None

-- the packets of a flow among some records
abbrev pub arrivals : List Seen → ℕ → List Arrival
arrivals rs flow = filter_map (λ r. arrival_in flow r.time (stamp_at r)) rs

-- the counts of a capture, as a caller sees them
pub record Counts : Type 0 where
  -- what is kept of each flow, by its number
  pub flows : List (ℕ × Flow)
  -- how many records there were
  pub records : ℕ
  -- their captured bytes
  pub bytes : ℕ
  -- how many of them counted for a flow
  pub stamped : ℕ

-- The counts are those of these records.
pub record StandsFor (c : Counts) (rs : List Seen) : Type 0 where
  pub records : c.records ≡ length rs
  pub bytes : c.bytes ≡ sum_by (λ r. length r.bytes) rs
  pub stamped : c.stamped ≡ count_by (λ r. is_some (stamp_at r)) rs
  pub flows : AreFlows c.flows (arrivals rs)

-- The counts, but for the bytes, are those of these records.
pub record CountsFor (c : Counts) (rs : List Seen) : Type 0 where
  pub records : c.records ≡ length rs
  pub stamped : c.stamped ≡ count_by (λ r. is_some (stamp_at r)) rs
  pub flows : AreFlows c.flows (arrivals rs)

-- those of some records that count for a flow
abbrev pub stamped_of : List Seen → List Seen
stamped_of rs = filter (λ r. is_some (stamp_at r)) rs

-- the flow numbers of the stamped packets among some records, in the order of the packets
abbrev pub flow_numbers : List Seen → List ℕ
flow_numbers rs = filter_map (λ r. option_map (λ s. s.flow) (stamp_at r)) rs

-- the flows that have packets among some records, in rising order of number
abbrev pub flows_of : List Seen → List ℕ
flows_of rs = filter (has (flow_numbers rs)) (range_with_len 0 (greatest_of (flow_numbers rs) + 1))

-- the sums over some records
abbrev pub totals_of : List Seen → Totals
totals_of rs = record {
  records = length rs;
  bytes = sum_by (λ r. length r.bytes) rs;
  stamped = count_by (λ r. is_some (stamp_at r)) rs;
}

-- the lines of what is kept of flows
abbrev pub lines_in : List (ℕ × Flow) → List FlowLine
lines_in flows = map line_in flows

-- the lines of these flows among some records
abbrev pub lines_of : List Seen → List ℕ → List FlowLine
lines_of rs flows = map (λ flow. line_of flow (arrivals rs flow)) flows

-- the packets of each flow, with one more packet of one flow
abbrev pub with_one : (ℕ → List Arrival) → ℕ → Arrival → ℕ → List Arrival
with_one ps flow a q = if flow == q then ps q ++ a ∷ [] else ps q
