use Rattle.std.proofs.Common.{◌≡◌, map, take}
use Rattle.trex_headers.specs.Layer.{layer_of}
use Rattle.trex_json.specs.Layer.{layer}
use Rattle.trex_json.proofs.layer.views.Given as goal

abbrev pub invariant-loop-one : goal.invariant-loop-one
invariant-loop-one l = map layer_of l.views.items ≡ map layer (take l.one-index l.layers)
