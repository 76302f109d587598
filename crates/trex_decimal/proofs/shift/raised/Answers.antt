-- A number times a power of ten lies below 10 ^ 30 exactly where the number lies below what is left of 30 zeros.
use Rattle.std.proofs.Common.{◌≡◌, ◌*◌, ◌^◌, ◌-◌, ◌<◌, Some, sym, ap, ◌∙◌, arith}
use Rattle.trex_decimal.proofs.Powers.{below_limit-small, raised-far, raised-over, raised-within}
use Rattle.trex_decimal.proofs.shift.raised.Goals as goal

pub returns-then-power-gt30 : goal.returns-then-power-gt30
returns-then-power-gt30 c = sym (raised-far c.args.number c.args.power c.if-number-eq0.false c.if-power-gt30.true)

pub returns-then-number-power_of_ten : goal.returns-then-number-power_of_ten
returns-then-number-power_of_ten c = sym (raised-over c.args.number c.args.power (omega arith) (omega (arith, c.power_of_ten.ensures)))

pub overflow_mul-result : goal.overflow_mul-result
overflow_mul-result c =
    let below : c.args.number < 10 ^ (30 - c.args.power) = omega (arith, c.power_of_ten.ensures) in
    let product : c.args.number * c.power_of_ten-2.result ≡ c.args.number * 10 ^ c.args.power = ap (λ p. c.args.number * p) c.power_of_ten-2.ensures in
    omega (arith, product, raised-within c.args.number c.args.power (omega arith) below)

pub returns : goal.returns
returns c =
    let below : c.args.number < 10 ^ (30 - c.args.power) = omega (arith, c.power_of_ten.ensures) in
    ap (λ p. Some (c.args.number * p)) c.power_of_ten-2.ensures
    ∙ sym (below_limit-small (c.args.number * 10 ^ c.args.power) (raised-within c.args.number c.args.power (omega arith) below))
