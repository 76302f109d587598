-- A number times a power of ten over another is the number times, or over, one power.
use Rattle.std.proofs.Common.{◌≡◌, ◌≢◌, Some, None, ℕ, ◌+◌, ◌-◌, ◌*◌, ◌/◌, ◌^◌, ◌<◌, ◌≤◌, sym, ap, ◌∙◌, arith}
use Rattle.std.proofs.Math.Nat.{pow-le-pow_right, mul-le-mul, mul-le-mul_right, mul-lt-mul_of_pos_right, div-eq_of_lt, mul-div_cancel, div-div-eq-div-mul, one-le-pow, mul_assoc}
use Rattle.std.proofs.lemmas.Bool.Decides.{nat_tests}
use Rattle.trex_decimal.specs.Decimal.{below_limit}
use lib.Pow.{pow-add}

pub power_some : (k : ℕ) → 0 < 10 ^ k
power_some k = one-le-pow k 10 (omega arith)

pub raise : (m up down : ℕ) → down ≤ up → m * 10 ^ up / 10 ^ down ≡ m * 10 ^ (up - down)
raise m up down within =
    let k = up - down in
    let split : up ≡ k + down = omega arith in
    ap (λ u. m * 10 ^ u / 10 ^ down) split
    ∙ ap (λ x. m * x / 10 ^ down) (pow-add 10 k down)
    ∙ ap (λ x. x / 10 ^ down) (sym (mul_assoc m (10 ^ k) (10 ^ down)))
    ∙ mul-div_cancel (m * 10 ^ k) (power_some down)

pub lower : (m up down : ℕ) → up ≤ down → m * 10 ^ up / 10 ^ down ≡ m / 10 ^ (down - up)
lower m up down within =
    let k = down - up in
    let split : down ≡ up + k = omega arith in
    ap (λ d. m * 10 ^ up / 10 ^ d) split
    ∙ ap (λ x. m * 10 ^ up / x) (pow-add 10 up k)
    ∙ sym (div-div-eq-div-mul (m * 10 ^ up) (10 ^ up) (10 ^ k))
    ∙ ap (λ x. x / 10 ^ k) (mul-div_cancel m (power_some up))

pub power_fits : (k : ℕ) → k ≤ 38 → 10 ^ k < 2 ^ 128
power_fits k few = let most : 10 ^ k ≤ 10 ^ 38 = pow-le-pow_right (omega arith) few in omega arith

pub below_limit-small : (v : ℕ) → v < 10 ^ 30 → below_limit v ≡ Some v
below_limit-small v small = grind (arith, nat_tests)

pub below_limit-large : (v : ℕ) → 10 ^ 30 ≤ v → below_limit v ≡ None
below_limit-large v large = grind (arith, nat_tests)

limit_parts : (p : ℕ) → p ≤ 30 → 10 ^ 30 ≡ 10 ^ (30 - p) * 10 ^ p
limit_parts p few = let split : 30 ≡ (30 - p) + p = omega arith in ap (λ k. 10 ^ k) split ∙ pow-add 10 (30 - p) p

pub raised-far : (n p : ℕ) → n ≢ 0 → 30 < p → below_limit (n * 10 ^ p) ≡ None
raised-far n p some far =
    let longer : 30 ≤ p = omega arith in
    let most : 10 ^ 30 ≤ 10 ^ p = pow-le-pow_right (omega arith) longer in
    let product : 1 * 10 ^ 30 ≤ n * 10 ^ p = (let one : 1 ≤ n = omega arith in mul-le-mul one most) in
    below_limit-large (n * 10 ^ p) (omega arith)

pub raised-over : (n p : ℕ) → p ≤ 30 → 10 ^ (30 - p) ≤ n → below_limit (n * 10 ^ p) ≡ None
raised-over n p few over = below_limit-large (n * 10 ^ p) (omega (arith, limit_parts p few, mul-le-mul_right (10 ^ p) over))

pub raised-within : (n p : ℕ) → p ≤ 30 → n < 10 ^ (30 - p) → n * 10 ^ p < 10 ^ 30
raised-within n p few within = omega (arith, limit_parts p few, mul-lt-mul_of_pos_right within (power_some p))

pub lowered-far : (n p : ℕ) → n < 10 ^ 38 → 38 < p → n / 10 ^ p ≡ 0
lowered-far n p small far = let longer : 38 ≤ p = omega arith in
    let most : 10 ^ 38 ≤ 10 ^ p = pow-le-pow_right (omega arith) longer in
    div-eq_of_lt (omega arith)
