-- Laws of causes, over any kind of state.
use Rattle.std.proofs.Common.{ℕ, ◌≤◌, Result, Ok, Err, arith}
use Rattle.trex_io.specs.Faults.{Rises, HasCause}

-- a count that rose in the later of two steps rose over both
pub Rises-after : {K : Type 0} (faults : K → ℕ) (a b c : K) → faults a ≤ faults b → Rises faults b c → Rises faults a c
Rises-after faults a b c later rises = omega arith

-- a call that fails where a step of its own failed, after steps that didn't, has that step's cause
pub HasCause-failed : {K T E : Type 0} (faults : K → ℕ) (a b c : K) (e : E) → faults a ≤ faults b → faults b ≤ faults c → Rises faults b c
    → HasCause {T = T} faults a c (Err e)
HasCause-failed faults a b c e later rest rises = record { later = omega arith; failed = Rises-after faults a b c later rises }

-- the cause of a call is one over the steps before it too
pub HasCause-after : {K T E : Type 0} (faults : K → ℕ) (a b c : K) (result : Result T E) → faults a ≤ faults b → HasCause faults b c result → HasCause faults a c result
HasCause-after faults a b c (Ok x) later cause = let rest : faults b ≤ faults c = cause.later in record { later = omega arith; failed = tt }
HasCause-after faults a b c (Err e) later cause = HasCause-failed faults a b c e later cause.later cause.failed
