use Rattle.std.proofs.Common.{sym}
use Rattle.trex_json.proofs.Decimals.{scaled_of-below}
use Rattle.trex_json.proofs.kinds.scaled.Goals as goal

pub returns-in-Ok-clause-within : goal.returns-in-Ok-clause-within
returns-in-Ok-clause-within c = scaled_of-below _ _ _ (sym c.in-Ok.ensures.value)
