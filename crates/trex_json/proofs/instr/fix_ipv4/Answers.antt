use Rattle.std.proofs.Common.{◌∙◌, ap, option_map}
use Rattle.trex_profile.specs.Instruction.{instruction, FixIpv4}
use Rattle.trex_json.proofs.instr.fix_ipv4.Goals as goal

pub returns-in_err-at-clause-value : goal.returns-in_err-at-clause-value
returns-in_err-at-clause-value c = ap (option_map instruction) c.from_residual.ensures ∙ ap (option_map FixIpv4) c.in_err-at.ensures.value

pub returns-clause-value : goal.returns-clause-value
returns-clause-value c = ap (option_map FixIpv4) c.in_ok-at.ensures.value
