-- One power of ten over another is one power, above or below the line.
use Rattle.std.proofs.Common.{◌≡◌, ◌*◌, ◌/◌, ◌^◌, sym, ap, ◌∙◌, arith}
use Rattle.trex_decimal.specs.Decimal.{below_limit}
use Rattle.trex_decimal.proofs.Powers.{raise, lower, below_limit-small, below_limit-large}
use Rattle.trex_decimal.proofs.shift.shifted.Goals as goal

pub returns-then-up-down : goal.returns-then-up-down
returns-then-up-down c = c.raised.ensures ∙ ap below_limit (sym (raise c.args.number c.args.up c.args.down c.if-up-down.true))

pub returns-then-value-power_of_ten : goal.returns-then-value-power_of_ten
returns-then-value-power_of_ten c =
    let value : c.lowered-value.result ≡ c.args.number * 10 ^ c.args.up / 10 ^ c.args.down =
    c.lowered-value.ensures ∙ sym (lower c.args.number c.args.up c.args.down (omega arith)) in
    sym (below_limit-small c.lowered-value.result (omega (arith, c.power_of_ten.ensures))) ∙ ap below_limit value

pub returns-else-value-power_of_ten : goal.returns-else-value-power_of_ten
returns-else-value-power_of_ten c =
    let value : c.lowered-value.result ≡ c.args.number * 10 ^ c.args.up / 10 ^ c.args.down =
    c.lowered-value.ensures ∙ sym (lower c.args.number c.args.up c.args.down (omega arith)) in
    sym (below_limit-large c.lowered-value.result (omega (arith, c.power_of_ten.ensures))) ∙ ap below_limit value
