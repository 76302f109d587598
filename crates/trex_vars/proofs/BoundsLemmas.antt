-- The values of a variable, and the ends between which they lie.
use Rattle.std.proofs.Common.{◌≡◌, ℕ, zero, suc, ◌+◌, ◌-◌, ◌*◌, ◌/◌, ◌%◌, ◌<◌, ◌≤◌, min, max, List, [], ◌∷◌, length, get_or, ap, ◌∙◌, arith}
use Rattle.std.specs.Prelude.{None, ◌==◌, ◌||◌, nat_lt, false, slice_index}
use Rattle.std.specs.List.{fold}
use Rattle.std.proofs.Math.Nat.{mod-lt, div-lt_iff_lt-mul}
use Rattle.std.proofs.lemmas.Bool.{ltb-false, or_parts}
use Rattle.std.proofs.lemmas.Bool.Decides.{nat_tests}
use Rattle.trex_vars.specs.declared.spec.Op.{Op}
use Rattle.trex_vars.specs.declared.spec.Op.TheVariants.{Inc, Dec, Random}
use Rattle.trex_vars.specs.declared.value.VarValue.TheVariants.{One, Pair}
use Rattle.trex_vars.specs.Bounds.{IsBetween, least, greatest, least_of, greatest_of}
use Rattle.trex_vars.specs.Check.{fault_of}
use Rattle.trex_vars.specs.Registers.{place_of, shown}
use Rattle.trex_vars.specs.Value.{back, counted, flows, value_at, word_at}
use Rattle.trex_vars.specs.Variable.{Variable, Counter, RandLimit, ListOf, Tuple}
use Rattle.trex_vars.proofs.Modulo.{back-steps}
use Rattle.trex_vars.proofs.Sound.{no_fault}
use Rattle.trex_vars.proofs.RegisterTurns.{mod-last}

-- a list without a fault has a value
has_value : (values : List ℕ) → ((length values == 0) || nat_lt 4096 (length values)) ≡ false → 0 < length values
has_value values e = grind (arith, nat_tests)

pairs-some : (a p : ℕ) → 0 < (a + 1) * (p + 1)
pairs-some a p = omega arith

-- there is a pair, and no more than all
pub flows-within : (pairs limit : ℕ) → 0 < pairs → (0 < flows pairs limit) × (flows pairs limit ≤ pairs)
flows-within pairs limit pos = (grind (arith, nat_tests), grind (arith, nat_tests))

-- the port of a flow
port-within : (a p limit flow : ℕ) → flow ≤ flows ((a + 1) * (p + 1)) limit - 1 → flow / (a + 1) ≤ p
port-within a p limit flow h =
    let within = flows-within ((a + 1) * (p + 1)) limit (pairs-some a p) in
    let swapped : (p + 1) * (a + 1) ≡ (a + 1) * (p + 1) = omega arith in
    let small : flow < (p + 1) * (a + 1) = omega (arith, within.0, within.1) in
    let some : 0 < a + 1 = omega arith in
    let below = (div-lt_iff_lt-mul {k = a + 1} {x = flow} {y = p + 1} some).1 small in
    omega arith

counted-lt : (op : Op) (m first step seed position n : ℕ) → 0 < m → counted op m first step seed position n < m
counted-lt Inc m first step seed position n pos = mod-lt (first + n * step) pos
counted-lt Dec m first step seed position n pos = mod-lt (first + (m - n * step % m)) pos
counted-lt Random m first step seed position n pos = mod-lt (word_at seed position n) pos

-- the value at the place of a packet
pub shown-value : (variable : Variable) (n place : ℕ) → fault_of variable ≡ None → place ≡ place_of variable n → shown variable place ≡ value_at variable n
unfolding value_at
shown-value (Counter Inc size init low high step seed position) n place e p =
    ap (λ (k : ℕ). One (low + k)) (p ∙ mod-last (high - low + 1) (init - low + n * step) (omega arith))
shown-value (Counter Dec size init low high step seed position) n place e p =
    let m = high - low + 1 in
    ap (λ (k : ℕ). One (low + k)) (p ∙ mod-last m (init - low + n * back m 0 step) (omega arith) ∙ back-steps m (init - low) n step (omega arith))
shown-value (Counter Random size init low high step seed position) n place e p =
    ap (λ (k : ℕ). One (low + k)) (p ∙ mod-last (high - low + 1) (word_at seed position n) (omega arith))
shown-value (RandLimit size low high limit seed position) n place e p = ap (λ (k : ℕ). One (low + k)) p
shown-value (ListOf Inc size step values seed position) n place e p =
    let pos = has_value values (no_fault (ListOf Inc size step values seed position) e).list in
    ap (λ (k : ℕ). One (slice_index values k)) (p ∙ mod-last (length values) (0 + n * step) pos)
shown-value (ListOf Dec size step values seed position) n place e p =
    let pos = has_value values (no_fault (ListOf Dec size step values seed position) e).list in
    let m = length values in
    ap (λ (k : ℕ). One (slice_index values k)) (p ∙ mod-last m (0 + n * back m 0 step) pos ∙ back-steps m 0 n step pos)
shown-value (ListOf Random size step values seed position) n place e p =
    let pos = has_value values (no_fault (ListOf Random size step values seed position) e).list in
    ap (λ (k : ℕ). One (slice_index values k)) (p ∙ mod-last (length values) (word_at seed position n) pos)
shown-value (Tuple ip_min ip_max port_min port_max limit) n place e p =
    let addresses = ip_max - ip_min + 1 in
    let pairs = addresses * (port_max - port_min + 1) in
    let some = pairs-some (ip_max - ip_min) (port_max - port_min) in
    let plain : 0 + n * 1 ≡ n = omega arith in
    ap (λ (k : ℕ). Pair (ip_min + k % addresses) (port_min + k / addresses))
    (p ∙ mod-last (flows pairs limit) (0 + n * 1) (flows-within pairs limit some).0 ∙ ap (λ (k : ℕ). k % flows pairs limit) plain)

-- a member of a list is at least the least, and at most the greatest
fold-min : (first : ℕ) (rest : List ℕ) → fold min first rest ≤ first
fold-min first [] = omega arith
fold-min first (x ∷ rest) = omega (arith, fold-min (min first x) rest)

fold-min-member : (first : ℕ) (rest : List ℕ) (i : ℕ) → i < length rest → fold min first rest ≤ get_or rest i 0
fold-min-member first [] i h = absurd (omega arith)
fold-min-member first (x ∷ rest) zero h = omega (arith, fold-min (min first x) rest)
fold-min-member first (x ∷ rest) (suc i) h = fold-min-member (min first x) rest i (omega arith)

fold-max : (first : ℕ) (rest : List ℕ) → first ≤ fold max first rest
fold-max first [] = omega arith
fold-max first (x ∷ rest) = omega (arith, fold-max (max first x) rest)

fold-max-member : (first : ℕ) (rest : List ℕ) (i : ℕ) → i < length rest → get_or rest i 0 ≤ fold max first rest
fold-max-member first [] i h = absurd (omega arith)
fold-max-member first (x ∷ rest) zero h = omega (arith, fold-max (max first x) rest)
fold-max-member first (x ∷ rest) (suc i) h = fold-max-member (max first x) rest i (omega arith)

member-between : (values : List ℕ) (i : ℕ) → i < length values → (least_of values ≤ get_or values i 0) × (get_or values i 0 ≤ greatest_of values)
member-between [] i h = absurd (omega arith)
member-between (x ∷ rest) zero h = (fold-min x rest, fold-max x rest)
member-between (x ∷ rest) (suc i) h = (fold-min-member x rest i (omega arith), fold-max-member x rest i (omega arith))

-- a number below a range's length, from its lower end on
from-low : (low high x : ℕ) → low ≤ high → x < high - low + 1 → (low ≤ low + x) × (low + x ≤ high)
from-low low high x order small = (omega arith, omega arith)

pub value-between : (variable : Variable) (n : ℕ) → fault_of variable ≡ None → IsBetween (least variable) (value_at variable n) (greatest variable)
unfolding value_at
value-between (Counter op size init low high step seed position) n e =
    from-low low high _ (ltb-false high low (no_fault (Counter op size init low high step seed position) e).order) (counted-lt op (high - low + 1) (init - low) step seed position n (omega arith))
value-between (RandLimit size low high limit seed position) n e =
    from-low low high _ (ltb-false high low (no_fault (RandLimit size low high limit seed position) e).order) (mod-lt (word_at seed position (n % limit)) (omega arith))
value-between (ListOf op size step values seed position) n e =
    member-between values _ (counted-lt op (length values) 0 step seed position n (has_value values (no_fault (ListOf op size step values seed position) e).list))
value-between (Tuple ip_min ip_max port_min port_max limit) n e =
    let addresses = ip_max - ip_min + 1 in
    let ports = port_max - port_min + 1 in
    let flow = n % flows (addresses * ports) limit in
    let within = flows-within (addresses * ports) limit (pairs-some (ip_max - ip_min) (port_max - port_min)) in
    let order = or_parts (nat_lt ip_max ip_min) (nat_lt port_max port_min) (no_fault (Tuple ip_min ip_max port_min port_max limit) e).order in
    let small : flow ≤ flows (addresses * ports) limit - 1 = omega (arith, mod-lt n within.0) in
    let port = port-within (ip_max - ip_min) (port_max - port_min) limit flow small in
    let some : 0 < addresses = omega arith in (
      from-low ip_min ip_max (flow % addresses) (ltb-false ip_max ip_min order.0) (mod-lt flow some),
      from-low port_min port_max (flow / addresses) (ltb-false port_max port_min order.1) (omega arith),
    )
