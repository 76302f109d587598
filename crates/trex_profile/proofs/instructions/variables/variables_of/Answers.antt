use Rattle.std.proofs.Common.{◌++◌, map, drop, ap, subst, sym, ◌∙◌, ◌+◌, arith}
use Rattle.trex_vars.specs.Variable.{variable_of}
use Rattle.trex_profile.specs.Answer.{Fails}
use Rattle.trex_profile.specs.InstrRules.{range_rule}
use Rattle.trex_profile.specs.Instruction.{instruction}
use Rattle.trex_profile.specs.Order.{unless}
use Rattle.trex_profile.specs.Steps.{variable_at, variables_from}
use Rattle.trex_profile.proofs.Naming.{variables-more, sound-more}
use Rattle.trex_profile.proofs.OrderLemmas.{first_each-next, fails-here, unless-kept}
use Rattle.trex_profile.proofs.instructions.variables.variables_of.Goals as goal

pub loop-at-preserved : goal.loop-at-preserved
loop-at-preserved c =
    let kept = unless-kept (range_rule c.args.seed c.loop-at.at (instruction c.index-instrs-at.result)) _ _ c.in-Ok.ensures.value in
    record {
      left = first_each-next (range_rule c.args.seed) instruction c.args.instrs.now c.loop-at.at c.index-instrs-at.result (omega arith)
          (ap (λ y. range_rule c.args.seed c.loop-at.at (instruction y)) (sym c.index-instrs-at.is) ∙ kept.0) ∙ c.loop-at.invariant.left;
      made = ap (λ items. map variable_of items ++ variables_from c.args.seed (c.loop-at.at + 1) (map instruction (drop (c.loop-at.at + 1) c.args.instrs.now))) c.in_ok-keep-in-Ok.ensures
          ∙ variables-more c.args.seed c.args.instrs.now c.loop-at.at c.index-instrs-at.result c.loop-at.vars.items _ (omega arith) c.index-instrs-at.is kept.1
          ∙ c.loop-at.invariant.made;
      sound = rw c.in_ok-keep-in-Ok.ensures (sound-more c.loop-at.vars.items _ c.loop-at.invariant.sound c.in-Ok.ensures.sound);
    }

pub returns-in-Err-clause-value : goal.returns-in-Err-clause-value
returns-in-Err-clause-value c =
    rw (← c.loop-at.invariant.left)
    (fails-here (range_rule c.args.seed) instruction c.args.instrs.now c.loop-at.at c.index-instrs-at.result _
    (variable_at c.args.seed c.loop-at.at (instruction c.index-instrs-at.result)) _ (omega arith)
    (subst (λ y. Fails c.in-Err.fault (unless (range_rule c.args.seed c.loop-at.at (instruction y)) (variable_at c.args.seed c.loop-at.at (instruction c.index-instrs-at.result))))
    c.index-instrs-at.is c.in-Err.ensures.value))
