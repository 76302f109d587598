use Rattle.std.proofs.Common.{◌++◌, map, take, sym, ap, ◌∙◌, option_to_list}
use Rattle.std.specs.List.{filter_map}
use Rattle.trex_profile.specs.Instruction.{instruction}
use Rattle.trex_profile.specs.Steps.{restart_of}
use Rattle.trex_profile.proofs.Lists.{kept-more}
use Rattle.trex_profile.proofs.instructions.variables.restarts_of.Goals as goal

pub loop-instr-preserved : goal.loop-instr-preserved
loop-instr-preserved c =
    c.in_ok-keep.ensures ∙ ap (λ front. front ++ option_to_list c.restart_of.result) c.loop-instr.invariant
    ∙ ap (λ more. filter_map restart_of (take c.loop-instr.instr-index (map instruction c.args.instrs.now)) ++ option_to_list more) c.restart_of.ensures
    ∙ sym (kept-more restart_of instruction c.args.instrs.now c.loop-instr.instr-index c.instr-item.result c.loop-instr-test.true c.instr-item.is)
