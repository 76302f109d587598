use Rattle.std.proofs.Common.{[], ◌∷◌, All, map, ap, subst, sym, ◌∙◌, arith}
use Rattle.std.proofs.lemmas.Grind.{common_steps}
use Rattle.std.proofs.lemmas.List.{map-append}
use Rattle.std.proofs.lemmas.List.Elements.{All-push}
use Rattle.serde_json.specs.View.{view}
use Rattle.trex_profile.specs.Instruction.{instruction, IsRawInstr}
use Rattle.trex_profile.proofs.OrderLemmas.{first_each-next, unless-kept}
use Rattle.trex_json.specs.Operands.{instr_rules, instruction_of}
use Rattle.trex_json.proofs.Each.{map-one_more}
use Rattle.trex_json.proofs.instr.each_instr.Goals as goal

pub loop-at-preserved : goal.loop-at-preserved
loop-at-preserved c =
    let seed = c.args.seed in
    let items = c.args.items.now in
    let at = c.loop-at.at in
    let item = c.index-items-at.result in
    let kept = unless-kept (instr_rules seed at (view item)) _ _ c.in-Ok.ensures.value in
    let pushed = c.in_ok-push-in-Ok.ensures.items in
    record {
      left = first_each-next (instr_rules seed) view items at item (omega arith)
          (ap (λ v. instr_rules seed at (view v)) (sym c.index-items-at.is) ∙ kept.0) ∙ c.loop-at.invariant.left;
      made = map-one_more instruction (instruction_of seed) view items at item c.loop-at.instrs.items _ c.in-Ok.instr (omega arith) c.index-items-at.is
          pushed c.loop-at.invariant.made kept.1;
      count = grind (arith, common_steps);
      ranges = subst (All IsRawInstr) (sym (ap (map instruction) pushed ∙ map-append instruction c.loop-at.instrs.items (c.in-Ok.instr ∷ [])))
          (All-push IsRawInstr (map instruction c.loop-at.instrs.items) (instruction c.in-Ok.instr) c.loop-at.invariant.ranges c.in-Ok.ensures.range);
    }

pub returns-clause-ranges : goal.returns-clause-ranges
returns-clause-ranges c = c.loop-at.invariant.ranges
