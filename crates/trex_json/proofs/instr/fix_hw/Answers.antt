use Rattle.trex_json.specs.Operands.{fix_hw_wrong}
use Rattle.trex_json.proofs.instr.fix_hw.Goals as goal

pub returns-clause-value : goal.returns-clause-value
unfolding fix_hw_wrong
returns-clause-value c =
    rw (← c.in_ok-l2.ensures.value, ← c.in_ok-l3.ensures.value, ← c.in_ok-l4.ensures.value)
