use Rattle.trex_json.specs.Operands.{rand_limit_wrong}
use Rattle.trex_json.proofs.instr.rand_limit.Goals as goal

pub returns-clause-value : goal.returns-clause-value
unfolding rand_limit_wrong
returns-clause-value c =
    rw (
      ← c.in_ok-size.ensures.value,
      ← c.in_ok-min.ensures.value,
      ← c.greatest_of.ensures,
      ← c.in_ok-max.ensures.value,
      ← c.in_ok-limit.ensures.value,
      ← c.in_ok-seed.ensures.value,
      ← c.in_ok-restart.ensures,
    )
