use Rattle.std.proofs.Common.{length}
use Rattle.trex_headers.proofs.building.+write_layers.Given as goal

abbrev pub decreases-write_layers : goal.decreases-write_layers
decreases-write_layers l = length l.layers.now
