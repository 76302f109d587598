use Rattle.trex_decimal.proofs.Powers.{power_fits}
use Rattle.trex_decimal.proofs.shift.power_of_ten.Goals as goal

pub pow-requires : goal.pow-requires
pow-requires c = power_fits c.args.power c.requires
