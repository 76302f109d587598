use Rattle.trex_json.specs.Layers.{tcp_wrong}
use Rattle.trex_json.proofs.layers.tcp.Goals as goal

pub returns : goal.returns
unfolding tcp_wrong
returns c =
    rw (
      ← c.in_ok-sport.ensures.value,
      ← c.in_ok-dport.ensures.value,
      ← c.in_ok-seq.ensures.value,
      ← c.in_ok-ack.ensures.value,
      ← c.in_ok-flags.ensures.value,
      ← c.in_ok-window.ensures.value,
    )
