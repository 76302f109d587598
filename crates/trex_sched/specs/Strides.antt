-- The packets of one burst, and a core's strides through them (own).
use Rattle.std.specs.Prelude.{◌≡◌, ℕ, ◌+◌, ◌*◌, ◌%◌, ◌^◌, ◌<◌, ◌≤◌, Option, None, Some}
use Rattle.trex_sched.specs.declared.chain.Leg.{Leg}
use Rattle.trex_sched.specs.declared.period.Period.{Period}
use Rattle.trex_sched.specs.declared.period.Split.{Split}
use Rattle.trex_sched.specs.declared.stride.Stride.{Stride}
use Rattle.trex_sched.specs.Times.{burst_offset, offset, size}

-- the time of packet k of a burst, and the rest of its division by the denominator
pub record IsSplit (period : Period) (k : ℕ) (split : Split) : Type 0 where
  pub whole : split.whole ≡ burst_offset period k
  pub rest : split.rest ≡ (k * period.num) % period.den

-- Packet k of a run and as many later ones as are left stand in one burst, packet k at a place of it.
pub record AreInBurst (leg : Leg) (k place left : ℕ) : Type 0 where
  pub begins : ℕ
  pub times : (m : ℕ) → m ≤ left → offset leg (k + m) ≡ begins + burst_offset leg.period (place + m)
  pub within : (m n : ℕ) → m ≤ left → size leg ≡ Some n → k + m < n

-- the stride of one of so many cores from packet k of a run that starts at some time
pub record IsStride (leg : Leg) (start cores k : ℕ) (stride : Stride) : Type 0 where
  pub burst : ℕ
  pub there : AreInBurst leg k burst stride.left
  pub start_is : stride.start ≡ start + there.begins
  pub place : IsSplit leg.period burst stride.place
  pub step : IsSplit leg.period cores stride.step
  pub small : stride.step.whole < 2 ^ 126

-- a stride from there, where there is one
abbrev pub IsAtStride : Leg → ℕ → ℕ → ℕ → Option Stride → Type 0
IsAtStride leg start cores k None = Unit {0}
IsAtStride leg start cores k (Some stride) = IsStride leg start cores k stride
