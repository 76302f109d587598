use Rattle.trex_json.specs.Layers.{vlan_wrong}
use Rattle.trex_json.proofs.layers.vlan.Goals as goal

pub returns : goal.returns
unfolding vlan_wrong
returns c =
    rw (← c.in_ok-tci.ensures.value, ← c.in_ok-etype.ensures.value)
