use Rattle.std.proofs.Common.{◌≡◌, All, ◌∷◌, subst, sym, arith}
use Rattle.std.proofs.lemmas.Grind.{common_steps}
use Rattle.std.proofs.lemmas.List.Elements.{All-push, All-tail}
use Rattle.std.specs.Vec.Iter.{into_iter_items}
use Rattle.trex_profile.specs.Member.{IsMember}
use Rattle.trex_profile.specs.Stream.{IsRawStream}
use Rattle.trex_profile.proofs.admission.each_stream.Goals as goal

pub loop-raw-preserved : goal.loop-raw-preserved
loop-raw-preserved c =
    let left : into_iter_items c.loop-raw.raw-iterator ≡ c.in-Some.raw ∷ into_iter_items c.next.new.self = grind (arith, common_steps, c.in-Some.ensures.steps) in
    record {
      can = tt;
      finite = tt;
      place = grind (arith, common_steps);
      whole = grind (arith, common_steps, c.in-Some.ensures.steps);
      made = grind (arith, common_steps, c.in-Ok.ensures.value, c.in_ok-push-in-Ok.ensures.items);
      ranges = All-tail IsRawStream c.in-Some.raw (into_iter_items c.next.new.self) (subst (All IsRawStream) left c.loop-raw.invariant.ranges);
      specs = subst (All IsMember) (sym c.in_ok-push-in-Ok.ensures.items) (All-push IsMember c.loop-raw.members.items c.in-Ok.member c.loop-raw.invariant.specs c.in-Ok.ensures.spec);
      left = grind (arith, common_steps, c.in-Some.ensures.steps, c.in-Ok.ensures.value);
    }

pub returns-clause-specs : goal.returns-clause-specs
returns-clause-specs c = c.loop-raw.invariant.specs
