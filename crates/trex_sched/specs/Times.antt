-- The times of one run.
use Rattle.std.specs.Prelude.{ℕ, zero, suc, ◌+◌, ◌*◌, ◌/◌, ◌%◌, ◌^◌, ◌<◌, nat_lt, if◌then◌else◌, Option, None, Some}
use Rattle.std.proofs.Math.Decide.{dec_lt, dec_le}
use Rattle.std.proofs.Math.Logic.{dite}
use Rattle.trex_sched.specs.declared.chain.Leg.{Leg}
use Rattle.trex_sched.specs.declared.mode.Mode.{Mode}
use Rattle.trex_sched.specs.declared.mode.Mode.TheVariants.{Continuous, SingleBurst, MultiBurst}
use Rattle.trex_sched.specs.declared.period.Period.{Period}

-- The period of num over den nanoseconds: there is one where it is at least 1 ns and its numerator is below 10^20 (own).
abbrev pub period_of : ℕ → ℕ → Option Period
period_of num den =
    dite (dec_lt 0 den)
    (λ whole. dite (dec_le den num)
    (λ at_least_one. dite (dec_lt num (10 ^ 20))
    (λ short. Some (record { num = num; den = den; whole = whole; at_least_one = at_least_one; short = short }))
    (λ _. None))
    (λ _. None))
    (λ _. None)

-- each burst has a packet
abbrev pub HasPackets : Mode → Type 0
HasPackets Continuous = Unit {0}
HasPackets (SingleBurst total) = 0 < total
HasPackets (MultiBurst per_burst ibg count) = 0 < per_burst

-- the time of packet k of a burst, from the burst's start, in ns: floor(k * num / den) (own)
abbrev pub burst_offset : Period → ℕ → ℕ
burst_offset period k = (k * period.num) / period.den

-- the packets of one run, where it ends (own)
abbrev pub size_of : Mode → Option ℕ
size_of Continuous = None
size_of (SingleBurst total) = Some total
size_of (MultiBurst per_burst ibg zero) = None
size_of (MultiBurst per_burst ibg (suc count)) = Some (per_burst * (count + 1))

-- how long a run lasts, where it ends: each burst, and the gap between two of them (own)
abbrev pub span_of : Period → Mode → Option ℕ
span_of period Continuous = None
span_of period (SingleBurst total) = Some (burst_offset period total)
span_of period (MultiBurst per_burst ibg zero) = None
span_of period (MultiBurst per_burst ibg (suc count)) = Some ((count + 1) * burst_offset period per_burst + count * ibg)

-- The time of packet k of a run, from the run's start. A further burst starts one gap after the end of the one before it (own).
abbrev pub offset_of : Period → Mode → ℕ → ℕ
offset_of period Continuous k = burst_offset period k
offset_of period (SingleBurst total) k = burst_offset period k
offset_of period (MultiBurst per_burst ibg count) k =
    (k / per_burst) * (burst_offset period per_burst + ibg) + burst_offset period (k % per_burst)

-- the packets of one run of a leg, where it ends
abbrev pub size : Leg → Option ℕ
size leg = size_of leg.mode

-- how long a run of a leg lasts, where it ends
abbrev pub span : Leg → Option ℕ
span leg = span_of leg.period leg.mode

-- the time of packet k of a run of a leg, from the run's start
abbrev pub offset : Leg → ℕ → ℕ
offset leg k = offset_of leg.period leg.mode k

-- a number below a limit
abbrev pub below : ℕ → ℕ → Option ℕ
below limit n = if nat_lt n limit then Some n else None
