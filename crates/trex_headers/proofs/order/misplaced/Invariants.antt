use Rattle.std.proofs.Common.{◌≡◌, map, take, drop}
use Rattle.trex_headers.specs.Layer.{layer_of}
use Rattle.trex_headers.specs.Order.{misplaced, misplaced_behind}
use Rattle.trex_headers.proofs.order.misplaced.Given as goal

abbrev pub invariant-loop-at : goal.invariant-loop-at
invariant-loop-at l = misplaced_behind l.version (map layer_of (take l.at l.layers)) (map layer_of (drop l.at l.layers)) ≡ misplaced l.version (map layer_of l.layers)
