use Rattle.std.proofs.Common.{◌≡◌, map, drop, take}
use Rattle.serde_json.specs.View.{view}
use Rattle.trex_json.specs.Layer.{layer}
use Rattle.trex_profile.specs.Order.{first_each}
use Rattle.trex_json.specs.Layers.{layer_rule, layer_of}
use Rattle.trex_json.proofs.layers.each_layer.Given as goal

abbrev pub invariant-loop-at : goal.invariant-loop-at
invariant-loop-at l = record {
  left : first_each layer_rule l.at (map view (drop l.at l.items)) ≡ first_each layer_rule 0 (map view l.items);
  made : map layer l.layers.items ≡ map layer_of (map view (take l.at l.items));
}
