use Rattle.std.proofs.Common.{◌≡◌, false, map, ap, sym, ◌∙◌, arith}
use Rattle.std.specs.List.{list_any}
use Rattle.trex_profile.specs.Given.{Given, given_of, is_given, is_empty_name, next_var, variable_name}
use Rattle.trex_profile.specs.InstrRules.{name_rule}
use Rattle.trex_profile.specs.Instruction.{instruction}
use Rattle.trex_profile.proofs.Naming.{names-more, next_var-most, var_after-more, name_rule-none}
use Rattle.trex_profile.proofs.OrderLemmas.{first_each-next}
use Rattle.trex_profile.proofs.instructions.names.names_of.Goals as goal

pub loop-at-preserved : goal.loop-at-preserved
loop-at-preserved c =
    let named : is_empty_name (variable_name (instruction c.index-instrs-at.result)) ≡ false = cc in
    let new : list_any (λ (g : Given). is_given (map given_of c.loop-at.names.items) g.name) (map given_of c.in_ok-given.given.items) ≡ false =
    rw (← c.deref.ensures.value) (rw (← c.deref-else-is_nameless.ensures.value) (sym c.are_given.ensures ∙ c.if-are_given.false)) in
    let kept = name_rule-none (map instruction c.args.instrs.now) c.loop-at.at c.loop-at.vars (instruction c.index-instrs-at.result) c.loop-at.names.items c.in_ok-given.given.items
    c.loop-at.invariant.made c.in_ok-given.ensures named new in
    record {
      left = first_each-next (name_rule (map instruction c.args.instrs.now)) instruction c.args.instrs.now c.loop-at.at c.index-instrs-at.result (omega arith)
          (ap (λ y. name_rule (map instruction c.args.instrs.now) c.loop-at.at (instruction y)) (sym c.index-instrs-at.is) ∙ kept) ∙ c.loop-at.invariant.left;
      made = names-more c.args.instrs.now c.loop-at.at c.index-instrs-at.result c.loop-at.names.items c.in_ok-given.given.items _ c.loop-at.vars (omega arith) c.index-instrs-at.is
          c.loop-at.invariant.made c.loop-at.invariant.vars c.in_ok-given.ensures c.in_ok-append.ensures;
      vars = c.next_var-vars.ensures ∙ ap (λ var. next_var var (instruction c.index-instrs-at.result)) c.loop-at.invariant.vars
          ∙ sym (var_after-more c.args.instrs.now c.loop-at.at c.index-instrs-at.result (omega arith) c.index-instrs-at.is);
      few = omega (arith, c.next_var-vars.ensures, next_var-most c.loop-at.vars (instruction c.index-instrs-at.result));
    }
