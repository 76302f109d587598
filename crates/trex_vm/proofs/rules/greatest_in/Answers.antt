use Rattle.std.proofs.Common.{ap, ◌∙◌}
use Rattle.trex_vars.specs.Variable.{variable_of}
use Rattle.trex_vars.specs.Bounds.{greatest}
use Rattle.trex_vars.specs.declared.spec.VarSpec.{VarSpec}
use Rattle.trex_vm.specs.Write.{part_of}
use Rattle.trex_vm.proofs.ProgramLemmas.{number_in-specs}
use Rattle.trex_vm.proofs.rules.greatest_in.Goals as goal

pub returns : goal.returns
returns c =
    let it = c.index-vars-from.result in
    let here = ap (λ (v : VarSpec). part_of c.args.from.part (greatest (variable_of v))) c.index-vars-from.is in
    c.part_of.ensures ∙ ap (part_of c.args.from.part) c.greatest.ensures ∙ here
    ∙ number_in-specs greatest c.args.vars.now c.args.from it c.requires
