use Rattle.trex_json.specs.Operands.{tuple_wrong}
use Rattle.trex_json.proofs.instr.tuple.Goals as goal

pub returns-clause-value : goal.returns-clause-value
unfolding tuple_wrong
returns-clause-value c =
    rw (
      ← c.in_ok-ip_min.ensures.value,
      ← c.in_ok-ip_max.ensures.value,
      ← c.in_ok-port_min.ensures.value,
      ← c.in_ok-port_max.ensures.value,
      ← c.in_ok-limit.ensures.value,
      ← c.in_ok-restart.ensures,
    )
