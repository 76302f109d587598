-- The times of a run: offsets grow by 1 ns or more a packet, and stay below the span.
use Rattle.std.proofs.Common.{◌≡◌, ℕ, zero, suc, ◌+◌, ◌-◌, ◌*◌, ◌/◌, ◌%◌, ◌<◌, ◌≤◌, None, Some, refl, ap, subst, arith, inl, inr}
use Rattle.std.proofs.lemmas.Bool.{cases_lt}
use Rattle.std.proofs.lemmas.Nat.{div-add-mod', le-div}
use Rattle.std.proofs.Math.Nat.{add-mul, mul-add, mul_comm, div-mul-le_self, mod-lt, mul-le-mul_left, mul-le-mul_right}
use Rattle.trex_sched.specs.declared.chain.Leg.{Leg}
use Rattle.trex_sched.specs.declared.mode.Mode.{Mode}
use Rattle.trex_sched.specs.declared.mode.Mode.TheVariants.{Continuous, SingleBurst, MultiBurst}
use Rattle.trex_sched.specs.declared.period.Period.{Period}
use Rattle.trex_sched.specs.Times.{burst_offset, HasPackets, offset_of, size_of, size, span_of, span}

-- ---- one burst

-- d packets later is d ns later, or more
pub burst_grows : (period : Period) (j d : ℕ) → burst_offset period j + d ≤ burst_offset period (j + d)
burst_grows period j d =
    let old : burst_offset period j * period.den ≤ j * period.num = div-mul-le_self (j * period.num) period.den in
    let more : d * period.den ≤ d * period.num = mul-le-mul_left d period.at_least_one in
    let left : (burst_offset period j + d) * period.den ≡ burst_offset period j * period.den + d * period.den = add-mul (burst_offset period j) d period.den in
    let right : (j + d) * period.num ≡ j * period.num + d * period.num = add-mul j d period.num in
    le-div (burst_offset period j + d) ((j + d) * period.num) period.den period.whole (omega arith)

-- packet k stands at least k ns after the start
pub burst_spread : (period : Period) (k : ℕ) → k ≤ burst_offset period k
burst_spread period k =
    let e : 0 + k ≡ k = omega arith in
    subst (λ (n : ℕ). k ≤ burst_offset period n) e (omega (arith, burst_grows period 0 k))

-- later packets stand later
pub burst_rising : (period : Period) (j k : ℕ) → j < k → burst_offset period j < burst_offset period k
burst_rising period j k less =
    let e : j + (k - j) ≡ k = omega arith in
    subst (λ (n : ℕ). burst_offset period j < burst_offset period n) e (omega (arith, burst_grows period j (k - j)))

-- ---- several bursts, over the burst q and the place r in it

bursts_spread : (period : Period) (p gap q r : ℕ) → q * p + r ≤ q * (burst_offset period p + gap) + burst_offset period r
bursts_spread period p gap q r =
    let long = burst_spread period p in
    let whole : q * p ≤ q * (burst_offset period p + gap) = mul-le-mul_left q (omega arith) in
    omega (arith, burst_spread period r)

bursts_rising : (period : Period) (p gap q r q' r' : ℕ) → r < p → r' < p → q * p + r < q' * p + r'
    → q * (burst_offset period p + gap) + burst_offset period r < q' * (burst_offset period p + gap) + burst_offset period r'
bursts_rising period p gap q r q' r' within within' less =
    let turn = burst_offset period p + gap in
    elim (cases_lt q q') [
      | inl earlier ↦
          let next : (q + 1) * turn ≤ q' * turn = mul-le-mul_right turn (omega arith) in
          let whole : (q + 1) * turn ≡ q * turn + 1 * turn = add-mul q 1 turn in
          let inside = burst_rising period r p within in
          omega arith
      | inr not_earlier ↦ elim (cases_lt q' q) [
        | inl later ↦
            let next : (q' + 1) * p ≤ q * p = mul-le-mul_right p (omega arith) in
            let whole : (q' + 1) * p ≡ q' * p + 1 * p = add-mul q' 1 p in
            absurd (omega arith)
        | inr not_later ↦
            let same : q ≡ q' = omega arith in
            let apart : r < r' = let e : q * p ≡ q' * p = ap (λ (n : ℕ). n * p) same in omega arith in
            let e : q * turn ≡ q' * turn = ap (λ (n : ℕ). n * turn) same in
            omega (arith, burst_rising period r r' apart)
      ]
    ]

bursts_within : (period : Period) (p gap q r count : ℕ) → r < p → q * p + r < p * (count + 1)
    → q * (burst_offset period p + gap) + burst_offset period r < (count + 1) * burst_offset period p + count * gap
bursts_within period p gap q r count within less =
    let long = burst_offset period p in
    let few : q ≤ count =
    elim (cases_lt count q) [
      | inl more ↦
          let over : (count + 1) * p ≤ q * p = mul-le-mul_right p (omega arith) in
          let turned : p * (count + 1) ≡ (count + 1) * p = mul_comm p (count + 1) in
          absurd (omega arith)
      | inr not_more ↦ omega arith
    ] in
    let bursts : q * (long + gap) ≤ count * (long + gap) = mul-le-mul_right (long + gap) few in
    let parts : count * (long + gap) ≡ count * long + count * gap = mul-add count long gap in
    let last : (count + 1) * long ≡ count * long + 1 * long = add-mul count 1 long in
    omega (arith, burst_rising period r p within)

-- ---- the laws of each mode

pub offset_spread : (period : Period) (mode : Mode) (k : ℕ) → HasPackets mode → k ≤ offset_of period mode k
offset_spread period Continuous k some = burst_spread period k
offset_spread period (SingleBurst total) k some = burst_spread period k
offset_spread period (MultiBurst p gap count) k some =
    omega (arith, bursts_spread period p gap (k / p) (k % p), div-add-mod' k p)

pub offset_rising : (period : Period) (mode : Mode) (j k : ℕ) → HasPackets mode → j < k → offset_of period mode j < offset_of period mode k
offset_rising period Continuous j k some less = burst_rising period j k less
offset_rising period (SingleBurst total) j k some less = burst_rising period j k less
offset_rising period (MultiBurst p gap count) j k some less =
    bursts_rising period p gap (j / p) (j % p) (k / p) (k % p) (mod-lt j some) (mod-lt k some) (omega (arith, div-add-mod' j p, div-add-mod' k p))

pub run_ends : (period : Period) (mode : Mode) (n s : ℕ) → HasPackets mode → size_of mode ≡ Some n → span_of period mode ≡ Some s → (1 ≤ n) × (n ≤ s)
run_ends period Continuous n s some sized lasts = absurd cc
run_ends period (SingleBurst total) n s some sized lasts =
    let is_n : total ≡ n = cc in
    let is_s : burst_offset period total ≡ s = cc in
    (omega arith, omega (arith, burst_spread period total))
run_ends period (MultiBurst p gap zero) n s some sized lasts = absurd cc
run_ends period (MultiBurst p gap (suc count)) n s some sized lasts =
    let is_n : p * (count + 1) ≡ n = cc in
    let is_s : (count + 1) * burst_offset period p + count * gap ≡ s = cc in
    let whole : p * (count + 1) ≡ p * count + p * 1 = mul-add p count 1 in
    let turned : p * (count + 1) ≡ (count + 1) * p = mul_comm p (count + 1) in
    let long : (count + 1) * p ≤ (count + 1) * burst_offset period p = mul-le-mul_left (count + 1) (burst_spread period p) in
    (omega arith, omega arith)

pub offset_within : (period : Period) (mode : Mode) (k n s : ℕ) → HasPackets mode → size_of mode ≡ Some n → span_of period mode ≡ Some s → k < n
    → offset_of period mode k < s
offset_within period Continuous k n s some sized lasts less = absurd cc
offset_within period (SingleBurst total) k n s some sized lasts less =
    let is_n : total ≡ n = cc in
    let is_s : burst_offset period total ≡ s = cc in
    omega (arith, burst_rising period k total (omega arith))
offset_within period (MultiBurst p gap zero) k n s some sized lasts less = absurd cc
offset_within period (MultiBurst p gap (suc count)) k n s some sized lasts less =
    let is_n : p * (count + 1) ≡ n = cc in
    let is_s : (count + 1) * burst_offset period p + count * gap ≡ s = cc in
    omega (arith, bursts_within period p gap (k / p) (k % p) count (mod-lt k some) (omega (arith, div-add-mod' k p)))

-- a run ends where it has a number of packets, and only there
pub ends_together : (period : Period) (mode : Mode) (s : ℕ) → span_of period mode ≡ Some s → (n : ℕ) × (size_of mode ≡ Some n)
ends_together period Continuous s lasts = absurd cc
ends_together period (SingleBurst total) s lasts = (total, refl)
ends_together period (MultiBurst p gap zero) s lasts = absurd cc
ends_together period (MultiBurst p gap (suc count)) s lasts = (p * (count + 1), refl)

pub endless_together : (period : Period) (mode : Mode) → span_of period mode ≡ None → size_of mode ≡ None
endless_together period Continuous lasts = refl
endless_together period (SingleBurst total) lasts = absurd cc
endless_together period (MultiBurst p gap zero) lasts = refl
endless_together period (MultiBurst p gap (suc count)) lasts = absurd cc

-- a run that ends has a packet
pub size_pos : (leg : Leg) (n : ℕ) → HasPackets leg.mode → size leg ≡ Some n → 1 ≤ n
size_pos leg n some sized =
    elim (span leg) as (λ o. span leg ≡ o → 1 ≤ n) [
      | None ↦ λ never. let none = endless_together leg.period leg.mode never in absurd cc
      | Some s ↦ λ lasts. (run_ends leg.period leg.mode n s some sized lasts).0
    ] refl
