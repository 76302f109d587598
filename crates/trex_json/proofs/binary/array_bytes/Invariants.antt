use Rattle.std.proofs.Common.{◌≡◌, ◌++◌, map, drop, option_map}
use Rattle.serde_json.specs.View.{view}
use Rattle.trex_json.specs.Kinds.{numbers_of}
use Rattle.trex_json.proofs.binary.array_bytes.Given as goal

abbrev pub invariant-loop-item : goal.invariant-loop-item
invariant-loop-item l =
    option_map (λ rest. l.bytes.items ++ rest) (numbers_of 255 (map view (drop l.item-index l.items))) ≡ numbers_of 255 (map view l.items)
