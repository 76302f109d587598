use Rattle.trex_json.specs.Layers.{udp_wrong}
use Rattle.trex_json.proofs.layers.udp.Goals as goal

pub returns : goal.returns
unfolding udp_wrong
returns c =
    rw (← c.in_ok-sport.ensures.value, ← c.in_ok-dport.ensures.value)
