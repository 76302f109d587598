-- The period that a stream keeps.
use Rattle.std.proofs.Common.{◌≡◌, Some, refl}
use Rattle.std.proofs.Props.{props}
use Rattle.std.proofs.Math.Logic.{∥∥₁_elim}
use Rattle.trex_sched.specs.Times.{period_of}
use Rattle.trex_sched.specs.declared.period.Period.{Period}
use Rattle.trex_profile.specs.Stream.{Stream}
use Rattle.trex_profile.specs.Rules.{numerator}
use Rattle.trex_profile.specs.Chains.{period}

-- two periods are equal in one way
period_set : (p q : Period) → IsProp (p ≡ q)
period_set = hlevel props

-- the period of a stream whose rate has one
pub period-timed : (s : Stream) (p : Period) → ∥ period_of (numerator s) s.rate.value ≡ Some p ∥₁ → period s ≡ p
period-timed s p timed = ∥∥₁_elim timed (period_set _ _) (λ is. rw is refl)
