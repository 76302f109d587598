use Rattle.std.proofs.Common.{map, sym, ◌∙◌}
use Rattle.trex_headers.specs.Layer.{layer_of}
use Rattle.trex_headers.proofs.Lengths.{too_long-none}
use Rattle.trex_headers.proofs.building.build.Goals as goal

pub returns-in_default-packet_length : goal.returns-in_default-packet_length
returns-in_default-packet_length c =
    (sym c.misplaced.ensures ∙ c.in_default.is, too_long-none (map layer_of c.args.layers.now) (sym c.in_default-packet_length.is ∙ c.packet_length.ensures))
