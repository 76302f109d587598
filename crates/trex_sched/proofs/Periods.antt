-- Where a period is there.
use Rattle.std.proofs.Common.{◌≡◌, ◌<◌, ◌≤◌, ◌^◌, ℕ, Some}
use Rattle.std.proofs.Math.Bridge.{le_prop}
use Rattle.std.proofs.Math.Decide.{dec_lt, dec_le}
use Rattle.std.proofs.Math.Logic.{dif_pos}
use Rattle.trex_sched.specs.Times.{period_of}

-- where the three conditions hold, there is the period of the two numbers
pub period_of-some : (num den : ℕ) (whole : 0 < den) (at_least_one : den ≤ num) (short : num < 10 ^ 20)
    → period_of num den
    ≡ Some (record { num = num; den = den; whole = whole; at_least_one = at_least_one; short = short })
period_of-some num den whole at_least_one short =
    rw (dif_pos (dec_lt 0 den) le_prop whole) (rw (dif_pos (dec_le den num) le_prop at_least_one) (rw (dif_pos (dec_lt num (10 ^ 20)) le_prop short)))
