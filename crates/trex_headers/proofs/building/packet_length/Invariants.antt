use Rattle.std.proofs.Common.{◌≡◌, ◌+◌, ◌≤◌, map, drop, sum_by}
use Rattle.trex_layers.specs.declared.sizes.TheConstants.{LONGEST_PACKET}
use Rattle.trex_headers.specs.Built.{header_length}
use Rattle.trex_headers.specs.Layer.{layer_of}
use Rattle.trex_headers.proofs.building.packet_length.Given as goal

abbrev pub invariant-loop-one : goal.invariant-loop-one
invariant-loop-one l = record {
  summed : l.length + sum_by header_length (map layer_of (drop l.one-index l.layers)) ≡ sum_by header_length (map layer_of l.layers);
  short : l.length ≤ LONGEST_PACKET;
}
