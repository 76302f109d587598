use Rattle.std.proofs.Common.{◌≡◌, Bool, true, false, Some, None, if◌then◌else◌, option_map, refl, ap, sym, ◌∙◌, arith}
use Rattle.serde_json.specs.View.{view}
use Rattle.trex_headers.specs.Layer.{Layer}
use Rattle.trex_profile.specs.declared.rule.Rule.TheVariants.{BadLayer}
use Rattle.trex_profile.specs.Refusal.{rule_there}
use Rattle.trex_profile.proofs.OrderLemmas.{first_each-next}
use Rattle.trex_json.specs.Layer.{layer}
use Rattle.trex_json.specs.Layers.{layer_of, layer_rule, layer_wrong}
use Rattle.trex_json.proofs.Each.{map-one_more}
use Rattle.trex_json.proofs.layers.each_layer.Goals as goal

-- a layer that is read is not wrong, and is the one that is meant
read-kept : (wrong : Bool) (x y : Layer) → Some x ≡ (if wrong then None else Some y) → (wrong ≡ false) × (y ≡ x)
read-kept true x y is = absurd (cc)
read-kept false x y is = (refl, cc)

pub loop-at-preserved : goal.loop-at-preserved
loop-at-preserved c =
    let items = c.args.items.now in
    let at = c.loop-at.at in
    let item = c.index-items-at.result in
    let kept = read-kept (layer_wrong (view item)) (layer c.in-Some.layer) (layer_of (view item)) (sym (ap (option_map layer) c.in-Some.is) ∙ c.in_ok-layer.ensures) in
    record {
      left = first_each-next layer_rule view items at item (omega arith)
          (ap (λ v. layer_rule at (view v)) (sym c.index-items-at.is) ∙ ap (rule_there BadLayer at) kept.0) ∙ c.loop-at.invariant.left;
      made = map-one_more layer layer_of view items at item c.loop-at.layers.items _ c.in-Some.layer (omega arith) c.index-items-at.is
          c.in_ok-push-in-Some.ensures.items c.loop-at.invariant.made kept.1;
    }
