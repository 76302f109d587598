use Rattle.std.proofs.Common.{◌≡◌, ◌+◌, ◌++◌, ◌∷◌, [], All, length, map, sym, ap, subst, ◌∙◌, arith, length-append}
use Rattle.std.specs.List.{range_with_len}
use Rattle.std.proofs.lemmas.List.Elements.{All-push}
use Rattle.trex_profile.specs.Stream.{raw_stream, IsRawStream}
use Rattle.trex_sample.specs.Sampled.{sampled_stream, sampled}
use Rattle.trex_sample.proofs.Kept.{made-more}
use Rattle.trex_sample.proofs.sample.raw_sample.Goals as goal

pub loop-position-preserved : goal.loop-position-preserved
loop-position-preserved c =
    let raw = c.in_ok-sampled_stream.field-0 in
    let items : c.push.new.self.items ≡ c.loop-position.all.items ++ raw ∷ [] = c.in_ok-push.ensures.items in
    let before : length c.loop-position.all.items ≡ c.loop-position.position = c.loop-position.invariant.count in
    record {
      made = ap (map raw_stream) items
          ∙ made-more c.args.seed c.loop-position.position c.loop-position.all.items raw c.loop-position.invariant.made c.in_ok-sampled_stream.ensures.value;
      count = ap length items ∙ length-append c.loop-position.all.items (raw ∷ []) ∙ ap (λ n. n + 1) before;
      ranges = subst (All IsRawStream) (sym items) (All-push IsRawStream c.loop-position.all.items raw c.loop-position.invariant.ranges c.in_ok-sampled_stream.ensures.ranges);
    }

pub returns-clause-value : goal.returns-clause-value
unfolding sampled
returns-clause-value c =
    let all : c.loop-position.position ≡ c.args.streams = omega arith in
    c.loop-position.invariant.made ∙ ap (λ n. map (sampled_stream c.args.seed) (range_with_len 0 n)) all
