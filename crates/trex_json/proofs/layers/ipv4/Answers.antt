use Rattle.trex_json.specs.Layers.{ipv4_wrong}
use Rattle.trex_json.proofs.layers.ipv4.Goals as goal

pub returns : goal.returns
unfolding ipv4_wrong
returns c =
    rw (
      ← c.in_ok-tos.ensures.value,
      ← c.in_ok-id.ensures.value,
      ← c.in_ok-frag.ensures.value,
      ← c.in_ok-ttl.ensures.value,
      ← c.in_ok-proto.ensures.value,
      ← c.in_ok-src.ensures,
      ← c.in_ok-dst.ensures,
    )
