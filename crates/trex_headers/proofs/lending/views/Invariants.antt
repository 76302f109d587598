use Rattle.std.proofs.Common.{◌≡◌, map, take}
use Rattle.trex_headers.specs.Layer.{layer_of}
use Rattle.trex_headers.proofs.lending.views.Given as goal

abbrev pub invariant-loop-one : goal.invariant-loop-one
invariant-loop-one g l = map layer_of l.views.items ≡ map g.L.AsLayer.plain (take l.one-index l.layers)
