-- What is kept of a flow, and that it is that of its packets. Own.
use Rattle.std.specs.Prelude.{◌≡◌, ℕ, ◌<◌, ◌≤◌, List, [], length, sum, count_by, MatchOption, IfSome}
use Rattle.std.specs.BTreeMap.{is_at}
use Rattle.std.specs.Map.{lookup}
use Rattle.std.specs.Ordering.{nat_cmp}
use Rattle.trex_stats.specs.declared.arrival.Arrival.{Arrival}
use Rattle.trex_stats.specs.declared.delays.Delays.{Delays}
use Rattle.trex_stats.specs.declared.flow.Flow.{Flow}
use Rattle.trex_stats.specs.declared.line.FlowLine.{FlowLine}
use Rattle.trex_stats.specs.declared.order.Order.{Order}
use Rattle.trex_stats.specs.Arrivals.{sequences, count_after, is_duplicate, is_reordered, is_early, latencies, least_of, greatest_of, missing_of}
use Rattle.trex_stats.specs.Ranges.{has}

-- the numbers and the counts of order are those of the packets
pub record AreOrder (o : Order) (ps : List Arrival) : Type 0 where
  pub seen : (q : ℕ) → has o.seen q ≡ has (sequences ps) q
  pub duplicates : o.duplicates ≡ count_after is_duplicate [] ps
  pub reordered : o.reordered ≡ count_after is_reordered [] ps

-- the latencies and the count of early packets are those of the packets
pub record AreDelays (d : Delays) (ps : List Arrival) : Type 0 where
  pub early : d.early ≡ count_by is_early ps
  pub timely : d.timely ≡ length (latencies ps)
  pub least : d.least ≡ least_of (latencies ps)
  pub greatest : d.greatest ≡ greatest_of (latencies ps)
  pub total : d.total ≡ sum (latencies ps)

-- what is kept of a flow is that of its packets
pub record AreFlow (f : Flow) (ps : List Arrival) : Type 0 where
  pub received : f.received ≡ length ps
  pub order : AreOrder f.order ps
  pub delays : AreDelays f.delays ps

-- the line of what is kept of a flow
abbrev pub line_in : ℕ × Flow → FlowLine
line_in (flow, f) = record {
  flow = flow;
  received = f.received;
  duplicates = f.order.duplicates;
  lost = missing_of f.order.seen;
  reordered = f.order.reordered;
  early = f.delays.early;
  least = f.delays.least;
  greatest = f.delays.greatest;
  sum = f.delays.total;
}

-- each flow that is kept is that of its packets, and one is kept for each that has packets
abbrev pub AreFlows : List (ℕ × Flow) → (ℕ → List Arrival) → Type 0
AreFlows flows ps = (q : ℕ) → MatchOption (lookup (is_at (nat_cmp q)) flows) (ps q ≡ []) (λ f. AreFlow f (ps q) × (0 < length (ps q)))

-- no flow has more than n packets
abbrev pub AllUpTo : ℕ → List (ℕ × Flow) → Type 0
AllUpTo n flows = (q : ℕ) → IfSome (lookup (is_at (nat_cmp q)) flows) (λ f. f.received ≤ n)
