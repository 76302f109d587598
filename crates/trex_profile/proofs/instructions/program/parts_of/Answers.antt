use Rattle.std.proofs.Common.{◌≡◌, ℕ, List, All, length, map, ap, subst, sym, ◌∙◌}
use Rattle.std.proofs.lemmas.List.{length-map}
use Rattle.trex_vars.specs.declared.spec.VarSpec.{VarSpec}
use Rattle.trex_vars.specs.Variable.{Variable, variable_of}
use Rattle.trex_vm.specs.Program.{AreOperandsOf, TakesFrom}
use Rattle.trex_profile.specs.declared.instructions.steps.Step.{Step}
use Rattle.trex_profile.specs.Given.{Given, given_of}
use Rattle.trex_profile.specs.Instruction.{Instruction, instruction}
use Rattle.trex_profile.specs.Steps.{variables_from, step, instrs_of, program_of}
use Rattle.trex_profile.proofs.Operands.{program-operands, steps-operands}
use Rattle.trex_profile.proofs.OrderLemmas.{unless-kept}
use Rattle.trex_profile.proofs.Restarts.{restarts-long}
use Rattle.trex_profile.proofs.instructions.program.parts_of.Goals as goal

pub returns-clause-vars : goal.returns-clause-vars
returns-clause-vars c = sym (unless-kept _ _ _ c.in_ok-vars.ensures.value).1

pub returns-clause-steps : goal.returns-clause-steps
returns-clause-steps c =
    let instrs = map instruction c.args.instrs.now in
    let names = (unless-kept _ _ _ c.in_ok-names.ensures).1 in
    let made = (unless-kept _ _ _ c.in_ok-steps.ensures).1 in
    sym made ∙ ap (λ (given : List Given). map (step c.args.template.now given) instrs) (ap (map given_of) c.deref.ensures.value ∙ sym names)

pub returns-clause-operands : goal.returns-clause-operands
returns-clause-operands c =
    let instrs = map instruction c.args.instrs.now in
    subst (λ (vars : List Variable). AreOperandsOf vars (program_of c.in_ok-steps.steps.items)) (sym (returns-clause-vars c))
    (subst (λ (steps : List Step). AreOperandsOf (variables_from c.args.seed 0 instrs) (program_of steps)) (sym (returns-clause-steps c)) (program-operands c.args.template.now c.args.seed instrs c.requires.ranges))

-- there are as many variables as are held
count : (seed : ℕ) (xs : List Instruction) (vars : List VarSpec) → map variable_of vars ≡ variables_from seed 0 xs
    → length (variables_from seed 0 xs) ≡ length vars
count seed xs vars same = ap length (sym same) ∙ length-map vars variable_of

pub returns-clause-paired : goal.returns-clause-paired
returns-clause-paired c =
    let instrs = map instruction c.args.instrs.now in
    ap length c.in_ok-restart.ensures ∙ restarts-long c.args.seed 0 instrs ∙ count c.args.seed instrs c.in_ok-vars.vars.items (returns-clause-vars c)

pub returns-clause-each : goal.returns-clause-each
returns-clause-each c =
    let instrs = map instruction c.args.instrs.now in
    let Taken : ℕ → List Step → Type 0 = λ n steps. All (λ s. All (TakesFrom n) (instrs_of s)) steps in
    subst (λ n. Taken n c.in_ok-steps.steps.items) (count c.args.seed instrs c.in_ok-vars.vars.items (returns-clause-vars c))
    (subst (Taken (length (variables_from c.args.seed 0 instrs))) (sym (returns-clause-steps c)) (steps-operands c.args.template.now c.args.seed instrs c.requires.ranges))
