use Rattle.std.proofs.Common.{sym, arith}
use Rattle.trex_decimal.proofs.Powers.{power_some, lowered-far}
use Rattle.trex_decimal.proofs.shift.lowered.Goals as goal

pub returns-then-power-gt38 : goal.returns-then-power-gt38
returns-then-power-gt38 c = sym (lowered-far c.args.number c.args.power c.requires c.if-power-gt38.true)

pub nonzero_div-result : goal.nonzero_div-result
nonzero_div-result c = omega (arith, power_some c.args.power, c.power_of_ten.ensures)
