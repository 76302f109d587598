-- The value of a variable at a packet number. Own.
use Rattle.std.specs.Prelude.{ℕ, ◌+◌, ◌-◌, ◌*◌, ◌/◌, ◌%◌, ◌==◌, ◌||◌, nat_lt, if◌then◌else◌, length, slice_index}
use Rattle.rand_pcg.specs.Lcg.{Lcg, advance, started, increment_of}
use Rattle.rand_pcg.specs.Pcg.{pcg64, multiplier_128}
use Rattle.trex_vars.specs.declared.spec.Op.{Op}
use Rattle.trex_vars.specs.declared.spec.Op.TheVariants.{Inc, Dec, Random}
use Rattle.trex_vars.specs.declared.value.VarValue.{VarValue}
use Rattle.trex_vars.specs.declared.value.VarValue.TheVariants.{One, Pair}
use Rattle.trex_vars.specs.Variable.{Variable, Counter, RandLimit, ListOf, Tuple}

-- the generator of a seed and a position after n words (PCG XSL RR 128/64)
unfoldable pub stands_at : ℕ → ℕ → ℕ → Lcg
stands_at seed position n = advance 128 multiplier_128 n (started 128 multiplier_128 seed (increment_of 128 position))

-- word n of a seed and a position, from 0 on (PCG XSL RR 128/64)
unfoldable pub word_at : ℕ → ℕ → ℕ → ℕ
word_at seed position n = (pcg64 (stands_at seed position n)).0

-- a number less another, modulo m
abbrev pub back : ℕ → ℕ → ℕ → ℕ
back m a b = (a + (m - b % m)) % m

-- a counter of m values from 0 on, at packet n
abbrev pub counted : Op → ℕ → ℕ → ℕ → ℕ → ℕ → ℕ → ℕ
counted Inc m first step seed position n = (first + n * step) % m
counted Dec m first step seed position n = back m first (n * step)
counted Random m first step seed position n = word_at seed position n % m

-- how many pairs come before the first comes again: the limit, or all pairs where it is 0 or above their number
abbrev pub flows : ℕ → ℕ → ℕ
flows pairs limit = if (limit == 0) || nat_lt pairs limit then pairs else limit

-- the value at packet n
unfoldable pub value_at : Variable → ℕ → VarValue
value_at (Counter op size init min max step seed position) n =
    One (min + counted op (max - min + 1) (init - min) step seed position n)
value_at (RandLimit size min max limit seed position) n =
    One (min + word_at seed position (n % limit) % (max - min + 1))
value_at (ListOf op size step values seed position) n =
    One (slice_index values (counted op (length values) 0 step seed position n))
value_at (Tuple ip_min ip_max port_min port_max limit) n =
    let addresses = ip_max - ip_min + 1 in
    let flow = n % flows (addresses * (port_max - port_min + 1)) limit in
    Pair (ip_min + flow % addresses) (port_min + flow / addresses)
