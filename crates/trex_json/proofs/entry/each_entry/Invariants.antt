use Rattle.std.proofs.Common.{◌≡◌, All, length, map, drop, take}
use Rattle.serde_json.specs.View.{view}
use Rattle.trex_profile.specs.Order.{first_each}
use Rattle.trex_profile.specs.Stream.{raw_stream, IsRawStream}
use Rattle.trex_json.specs.Shape.{entry_stream, shape_refusal}
use Rattle.trex_json.proofs.entry.each_entry.Given as goal

abbrev pub invariant-loop-at : goal.invariant-loop-at
invariant-loop-at l = record {
  left : first_each shape_refusal l.at (map view (drop l.at l.entries)) ≡ first_each shape_refusal 0 (map view l.entries);
  made : map raw_stream l.streams.items ≡ map entry_stream (map view (take l.at l.entries));
  count : length l.streams.items ≡ l.at;
  ranges : All IsRawStream l.streams.items;
}
