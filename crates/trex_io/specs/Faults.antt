-- What a call that may fail does to a count of faults. Own.
use Rattle.std.specs.Prelude.{ℕ, ◌+◌, ◌-◌, ◌^◌, ◌≤◌, min, Result, OnErr}

-- the count rose, or stands at the last value of a u64
abbrev pub Rises : {K : Type 0} → (K → ℕ) → K → K → Type 0
Rises faults old new = min (faults old + 1) (2 ^ 64 - 1) ≤ faults new

-- the count never falls, and an `Err` comes only where it rose
pub record HasCause {K T E : Type 0} (faults : K → ℕ) (old new : K) (result : Result T E) : Type 0 where
  pub later : faults old ≤ faults new
  pub failed : OnErr result (Rises faults old new)
