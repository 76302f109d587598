use Rattle.std.proofs.Common.{◌≡◌, ◌++◌, map, length, All}
use Rattle.std.specs.Vec.Iter.{into_iter_items}
use Rattle.trex_profile.specs.Member.{member_stream, IsMember}
use Rattle.trex_profile.specs.Order.{first_each}
use Rattle.trex_profile.specs.Rules.{value_refusal}
use Rattle.trex_profile.specs.Stream.{raw_stream, IsRawStream}
use Rattle.trex_profile.proofs.admission.each_stream.Given as goal

abbrev pub invariant-loop-raw : goal.invariant-loop-raw
invariant-loop-raw l = record {
  can : (goal.iterator-loop-raw).can_next l.raw-iterator;
  finite : (goal.iterator-loop-raw).is_finite l.raw-iterator;
  place : l.at ≡ length l.yielded;
  whole : l.yielded ++ into_iter_items l.raw-iterator ≡ l.fn.raws.items;
  made : map member_stream l.members.items ≡ map raw_stream l.yielded;
  ranges : All IsRawStream (into_iter_items l.raw-iterator);
  specs : All IsMember l.members.items;
  left : first_each value_refusal l.at (map raw_stream (into_iter_items l.raw-iterator))
      ≡ first_each value_refusal 0 (map raw_stream l.fn.raws.items);
}
