use Rattle.trex_profile.proofs.RuleLemmas.{value_rules-list}
use Rattle.trex_profile.proofs.laws.value_rules_in_order.Goals as goal

pub returns : goal.returns
returns c = value_rules-list
