use Rattle.trex_json.specs.Layers.{ipv6_wrong}
use Rattle.trex_json.proofs.layers.ipv6.Goals as goal

pub returns : goal.returns
unfolding ipv6_wrong
returns c =
    rw (
      ← c.in_ok-class.ensures.value,
      ← c.in_ok-label.ensures.value,
      ← c.in_ok-hop.ensures.value,
      ← c.in_ok-next.ensures.value,
      ← c.in_ok-src.ensures,
      ← c.in_ok-dst.ensures,
    )
