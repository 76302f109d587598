use Rattle.trex_json.proofs.Groups.{entry_rules-in_order}
use Rattle.trex_json.proofs.order.shape_rules_in_order.Goals as goal

pub returns : goal.returns
returns c = entry_rules-in_order
