use Rattle.std.proofs.Common.{Some, map, sym, ap}
use Rattle.serde_json.specs.View.{view}
use Rattle.trex_json.proofs.JsonLemmas.{list_of-items_of}
use Rattle.trex_json.proofs.kinds.an_array.Goals as goal

pub returns : goal.returns
returns c = rw c.as_slice.ensures.value (rw (← c.in_ok-items.ensures) (ap Some (sym (list_of-items_of (map view c.in_ok-items.items.now.items)))))
