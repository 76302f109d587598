-- The counts of packets that came as they were sent. Own.
use Rattle.std.specs.Prelude.{◌≡◌, ℕ, ◌+◌, List, [], ◌∷◌}
use Rattle.trex_stats.specs.declared.arrival.Arrival.{Arrival}
use Rattle.trex_stats.specs.declared.line.FlowLine.{FlowLine}

-- the packets came in order and when they were due, and have all numbers from `first` on
abbrev pub AreAsSent : ℕ → List Arrival → Type 0
AreAsSent first [] = Unit {0}
AreAsSent first (a ∷ ps) = (a.sequence ≡ first) × (a.came ≡ a.sent) × AreAsSent (first + 1) ps

-- the line of a flow of so many packets of which none was lost, repeated, late or early
abbrev pub clean_line : ℕ → ℕ → FlowLine
clean_line flow received =
    record { flow = flow; received = received; duplicates = 0; lost = 0; reordered = 0; early = 0; least = 0; greatest = 0; sum = 0 }
