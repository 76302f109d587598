-- Times of a burst as wholes and rests: the sum of two, and of places in a burst.
use Rattle.std.proofs.Common.{◌≡◌, ℕ, ◌+◌, ◌-◌, ◌*◌, ◌/◌, ◌%◌, ◌<◌, ◌≤◌, sym, ap, ◌∙◌, arith}
use Rattle.std.proofs.lemmas.Nat.{div-add-mod', div-mul-add}
use Rattle.std.proofs.Math.Nat.{add-mul}
use Rattle.trex_sched.specs.declared.period.Period.{Period}
use Rattle.trex_sched.specs.declared.period.Split.{Split}
use Rattle.trex_sched.specs.Strides.{IsSplit}
use Rattle.trex_sched.proofs.Turns.{rest_of}

-- a whole and a rest below the divisor are quotient and rest
pub parts_of : (n turns m rest : ℕ) → rest < m → n ≡ turns * m + rest → (turns ≡ n / m) × (rest ≡ n % m)
parts_of n turns m rest small is =
    (sym (ap (λ (x : ℕ). x / m) is ∙ div-mul-add turns m rest small), sym (rest_of n turns m rest small is))

-- the sum of two divisions, whose rests stay below the divisor or reach it
sum_small : (a b m : ℕ) → a % m + b % m < m → (a / m + b / m ≡ (a + b) / m) × (a % m + b % m ≡ (a + b) % m)
sum_small a b m small =
    let whole : (a / m + b / m) * m ≡ a / m * m + b / m * m = add-mul (a / m) (b / m) m in
    parts_of (a + b) (a / m + b / m) m (a % m + b % m) small (omega (arith, div-add-mod' a m, div-add-mod' b m))

sum_over : (a b m : ℕ) → a % m + b % m - m < m → m ≤ a % m + b % m → (a / m + b / m + 1 ≡ (a + b) / m) × (a % m + b % m - m ≡ (a + b) % m)
sum_over a b m small over =
    let whole : (a / m + b / m) * m ≡ a / m * m + b / m * m = add-mul (a / m) (b / m) m in
    let more : (a / m + b / m + 1) * m ≡ (a / m + b / m) * m + 1 * m = add-mul (a / m + b / m) 1 m in
    parts_of (a + b) (a / m + b / m + 1) m (a % m + b % m - m) small (omega (arith, div-add-mod' a m, div-add-mod' b m))

-- the time of a later packet, where the rests stay below the denominator
pub later_within : (period : Period) (j k : ℕ) (one other : Split) → IsSplit period j one → IsSplit period k other → one.rest + other.rest < period.den
    → IsSplit period (j + k) (record { whole = one.whole + other.whole; rest = one.rest + other.rest })
later_within period j k one other is_one is_other small =
    let scaled : (j + k) * period.num ≡ j * period.num + k * period.num = add-mul j k period.num in
    let parts = sum_small (j * period.num) (k * period.num) period.den (rw (← is_one.rest, ← is_other.rest) small) in
    record {
      whole = omega (arith, is_one.whole, is_other.whole, parts.0, ap (λ (n : ℕ). n / period.den) scaled);
      rest = omega (arith, is_one.rest, is_other.rest, parts.1, ap (λ (n : ℕ). n % period.den) scaled);
    }

-- and where they reach it
pub later_over : (period : Period) (j k : ℕ) (one other : Split) → IsSplit period j one → IsSplit period k other
    → one.rest < period.den → other.rest < period.den → period.den ≤ one.rest + other.rest
    → IsSplit period (j + k) (record { whole = one.whole + other.whole + 1; rest = one.rest + other.rest - period.den })
later_over period j k one other is_one is_other less less' over =
    let scaled : (j + k) * period.num ≡ j * period.num + k * period.num = add-mul j k period.num in
    let parts = sum_over (j * period.num) (k * period.num) period.den (omega (arith, is_one.rest, is_other.rest)) (omega (arith, is_one.rest, is_other.rest)) in
    record {
      whole = omega (arith, is_one.whole, is_other.whole, parts.0, ap (λ (n : ℕ). n / period.den) scaled);
      rest = omega (arith, is_one.rest, is_other.rest, parts.1, ap (λ (n : ℕ). n % period.den) scaled);
    }
