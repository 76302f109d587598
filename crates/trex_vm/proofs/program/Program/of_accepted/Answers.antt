use Rattle.std.proofs.Common.{◌≡◌, ℕ, List, length, map, sym, ap, subst, ◌∙◌}
use Rattle.trex_vars.specs.Variable.{variable_of}
use Rattle.trex_vm.specs.declared.instr.Instr.{Instr}
use Rattle.trex_vm.specs.Effect.{first_trim}
use Rattle.trex_vm.specs.Rules.{least_length}
use Rattle.trex_vm.specs.Program.{IsProgram}
use Rattle.trex_vm.proofs.ProgramLemmas.{accepted-program, accepts-tells, least_length-within}
use Rattle.trex_vm.proofs.program.Program.of_accepted.Goals as goal

pub invariant_of-result : goal.invariant_of-result
invariant_of-result c =
    let vars = map variable_of c.args.vars.now in
    let template = c.args.template.now in
    let stamp = c.args.stamp in
    let instrs = c.args.instrs.items in
    let shortest = least_length vars instrs (length template) in
    let accepted = c.requires.accepted in
    let known = accepts-tells vars template stamp instrs accepted in
    let within = least_length-within vars instrs (length template) c.requires.sound c.requires.operands.operands known.cuts in
    let least : c.least_length-least.result ≡ shortest = c.least_length-least.ensures ∙ ap (λ (xs : List Instr). least_length vars xs (length template)) c.deref.ensures.value in
    let Holds : ℕ → Type 0 = λ n. IsProgram (record { instrs = instrs; template = length template; least = n; stamp = stamp }) in (
      subst Holds (sym least)
          (accepted-program instrs vars template stamp c.requires.long c.requires.short c.requires.operands.formed within known),
      c.trim_in-trim.ensures ∙ ap first_trim c.deref-2.ensures.value,
    )
