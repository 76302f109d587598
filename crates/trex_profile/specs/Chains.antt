-- The chains of a profile's streams (own).
use Rattle.std.specs.Prelude.{ℕ, ◌+◌, ◌&&◌, Bool, List, [], ◌∷◌, map, slice_get, Option, option_map, unwrap_or, if◌then◌else◌}
use Rattle.std.specs.List.{filter_map}
use Rattle.std.proofs.Math.Dec.{lit≤, lit<}
use Rattle.trex_sched.specs.Times.{period_of}
use Rattle.trex_sched.specs.Chain.{Chain}
use Rattle.trex_sched.specs.declared.period.Period.{Period}
use Rattle.trex_sched.specs.declared.chain.Leg.{Leg}
use Rattle.trex_profile.specs.Stream.{Stream}
use Rattle.trex_profile.specs.Rules.{numerator}
use Rattle.trex_profile.specs.Links.{links}
use Rattle.trex_profile.specs.Visits.{Round, round_of}

-- one nanosecond
abbrev one_nanosecond : Period
one_nanosecond = record { num = 1; den = 1; whole = lit< tt; at_least_one = lit≤ tt; short = lit< tt }

-- The period of a stream. Each stream that keeps the rules has one; one nanosecond stands for that of another.
abbrev pub period : Stream → Period
period s = unwrap_or (period_of (numerator s) s.rate.value) one_nanosecond

-- the stream at a position as a chain visits it
abbrev pub leg_at : ℕ → Stream → Leg
leg_at position s =
    record { stream = position; isg = s.isg; period = period s; mode = s.mode; actions = s.action_count }

-- a stream that starts by itself begins a chain
abbrev pub begins : Stream → Bool
begins s = s.enabled && s.self_start

-- the positions of those among the streams from a position on
abbrev pub starts_from : ℕ → List Stream → List ℕ
starts_from position [] = []
starts_from position (s ∷ streams) =
    if begins s then position ∷ starts_from (position + 1) streams else starts_from (position + 1) streams

-- the positions of the streams that start by themselves
abbrev pub starts : List Stream → List ℕ
starts streams = starts_from 0 streams

-- the stream at a position as a leg
abbrev pub leg_of : List Stream → ℕ → Option Leg
leg_of streams at = option_map (leg_at at) (slice_get streams at)

-- the chain that visits the streams of a round
abbrev pub chain_by : List Stream → Round → Chain
chain_by streams round = record { legs = filter_map (leg_of streams) round.order; back = round.back }

-- one chain for each stream that starts by itself, in order of position
abbrev pub chains_of : List Stream → List Chain
chains_of streams = map (λ start. chain_by streams (round_of (links streams) start)) (starts streams)
