use Rattle.std.proofs.Common.{[], ◌∷◌, ◌++◌, map, take, is_none, unwrap_or, sym, ap, ◌∙◌, arith}
use Rattle.std.proofs.lemmas.Grind.{common_steps}
use Rattle.trex_profile.specs.declared.instructions.steps.Step.TheVariants.{Makes}
use Rattle.trex_profile.specs.declared.rule.Rule.TheVariants.{UnknownVariable}
use Rattle.trex_profile.specs.Given.{given_of}
use Rattle.trex_profile.specs.InstrRules.{unknown_rule}
use Rattle.trex_profile.specs.Instruction.{instruction}
use Rattle.trex_profile.specs.Refusal.{rule_there}
use Rattle.trex_profile.specs.Steps.{step}
use Rattle.trex_profile.proofs.Lists.{map-more}
use Rattle.trex_profile.proofs.OrderLemmas.{first_each-next}
use Rattle.trex_profile.proofs.instructions.steps.steps_of.Goals as goal

pub loop-at-preserved : goal.loop-at-preserved
loop-at-preserved c =
    let items = c.args.instrs.now in
    let at = c.loop-at.at in
    let item = c.index-instrs-at.result in
    let given = map given_of c.args.names.now in
    let template = c.args.template.now in
    let known = sym c.in-Some.ensures in
    record {
      left = first_each-next (unknown_rule template given) instruction items at item (omega arith)
          (ap (λ y. unknown_rule template given at (instruction y)) (sym c.index-instrs-at.is) ∙ ap (λ found. rule_there UnknownVariable at (is_none found)) known)
          ∙ c.loop-at.invariant.left;
      made = c.in_ok-push-in-Some.ensures.items ∙ ap (λ front. front ++ c.in-Some.step ∷ []) c.loop-at.invariant.made
          ∙ ap (λ s. map (step template given) (map instruction (take at items)) ++ s ∷ []) (ap (λ found. unwrap_or found Makes) (sym known))
          ∙ sym (map-more (step template given) instruction items at item (omega arith) c.index-instrs-at.is);
      count = grind (arith, common_steps);
    }
