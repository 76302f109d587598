use Rattle.std.proofs.Common.{◌≡◌, ℕ, ◌<◌, List, All, length, get_or, map, drop, Option, None, Some, Ok, Err, ◌∙◌, option_map, sym, subst, ap, arith}
use Rattle.std.proofs.lemmas.Grind.{common_steps}
use Rattle.std.proofs.lemmas.List.Elements.{All-push}
use Rattle.serde_json.specs.Data.{Data}
use Rattle.serde_json.specs.View.{view}
use Rattle.trex_profile.specs.declared.fault.Fault.{Fault}
use Rattle.trex_profile.specs.declared.fault.Fault.TheVariants.{Refused, Memory}
use Rattle.trex_profile.specs.declared.refusal.Breach.{Breach}
use Rattle.trex_profile.specs.declared.refusal.Refusal.{Refusal}
use Rattle.trex_profile.specs.Answer.{Fails, fault_at}
use Rattle.trex_profile.specs.Order.{first_each, unless}
use Rattle.trex_profile.specs.Refusal.{in_stream}
use Rattle.trex_profile.specs.Stream.{Stream, raw_stream, IsRawStream}
use Rattle.trex_profile.proofs.OrderLemmas.{first_each-here, first_each-next, unless-kept}
use Rattle.trex_json.specs.Shape.{entry_rules, entry_stream, shape_refusal}
use Rattle.trex_json.proofs.Each.{map-one_more}
use Rattle.trex_json.proofs.entry.each_entry.Goals as goal

-- an error is the rule that is broken
broken-of : (rule : Option Breach) (s : Stream) (b : Breach) → unless rule s ≡ Err b → rule ≡ Some b
broken-of None s b is = absurd (cc)
broken-of (Some other) s b is = cc

-- the fault of the first entry that breaks a rule is that of all
fails-at : {V : Type 0} (view : V → Data) (items : List V) (at : ℕ) (item : V) (fault : Fault Breach) (s : Stream) (all : Option Refusal) (xs : List Stream)
    → at < length items → item ≡ get_or items at item → Fails fault (unless (entry_rules (view item)) s)
    → first_each shape_refusal at (map view (drop at items)) ≡ all → Fails (fault_at at fault) (unless all xs)
fails-at view items at item (Refused b) s all xs inside is fails left =
    ap (λ rule. unless rule xs) (sym left ∙ first_each-here shape_refusal view items at item (in_stream at b) inside
    (ap (λ v. shape_refusal at (view v)) (sym is) ∙ ap (option_map (in_stream at)) (broken-of (entry_rules (view item)) s b fails)))
fails-at view items at item Memory s all xs inside is fails left = tt

pub loop-at-preserved : goal.loop-at-preserved
loop-at-preserved c =
    let items = c.args.entries.now in
    let at = c.loop-at.at in
    let item = c.index-entries-at.result in
    let kept = unless-kept (entry_rules (view item)) _ _ c.in-Ok.ensures.value in
    record {
      left = first_each-next shape_refusal view items at item (omega arith)
          (ap (λ v. shape_refusal at (view v)) (sym c.index-entries-at.is) ∙ ap (option_map (in_stream at)) kept.0) ∙ c.loop-at.invariant.left;
      made = map-one_more raw_stream entry_stream view items at item c.loop-at.streams.items _ c.in-Ok.stream (omega arith) c.index-entries-at.is
          c.in_ok-push-in-Ok.ensures.items c.loop-at.invariant.made kept.1;
      count = grind (arith, common_steps);
      ranges = subst (All IsRawStream) (sym c.in_ok-push-in-Ok.ensures.items)
          (All-push IsRawStream c.loop-at.streams.items c.in-Ok.stream c.loop-at.invariant.ranges c.in-Ok.ensures.ranges);
    }

pub returns-in-Err-clause-value : goal.returns-in-Err-clause-value
returns-in-Err-clause-value c =
    let items = c.args.entries.now in
    let item = c.index-entries-at.result in
    let all = first_each shape_refusal 0 (map view items) in
    let meant = map entry_stream (map view items) in
    subst (λ fault. Fails fault (unless all meant)) (sym c.in_stream.ensures)
    (fails-at view items c.loop-at.at item c.in-Err.fault (entry_stream (view item)) all meant (omega arith) c.index-entries-at.is c.in-Err.ensures.value c.loop-at.invariant.left)

pub returns-clause-ranges : goal.returns-clause-ranges
returns-clause-ranges c = c.loop-at.invariant.ranges
