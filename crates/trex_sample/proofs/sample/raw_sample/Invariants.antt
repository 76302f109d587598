use Rattle.std.proofs.Common.{◌≡◌, All, length, map}
use Rattle.std.specs.List.{range_with_len}
use Rattle.trex_profile.specs.Stream.{raw_stream, IsRawStream}
use Rattle.trex_sample.specs.Sampled.{sampled_stream}
use Rattle.trex_sample.proofs.sample.raw_sample.Given as goal

abbrev pub invariant-loop-position : goal.invariant-loop-position
invariant-loop-position l = record {
  made : map raw_stream l.all.items ≡ map (sampled_stream l.seed) (range_with_len 0 l.position);
  count : length l.all.items ≡ l.position;
  ranges : All IsRawStream l.all.items;
}
