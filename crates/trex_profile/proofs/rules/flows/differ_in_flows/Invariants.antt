use Rattle.std.proofs.Common.{◌≡◌, drop, take, map}
use Rattle.trex_profile.specs.Cross.{flows, flow_refusal}
use Rattle.trex_profile.specs.Member.{member_stream}
use Rattle.trex_profile.specs.Order.{first_each}
use Rattle.trex_profile.proofs.rules.flows.differ_in_flows.Given as goal

abbrev pub invariant-loop-at : goal.invariant-loop-at
invariant-loop-at l = record {
  keys : l.found.keys ≡ flows (take l.at (map member_stream l.members));
  left : first_each (flow_refusal (map member_stream l.members)) l.at (map member_stream (drop l.at l.members))
      ≡ first_each (flow_refusal (map member_stream l.members)) 0 (map member_stream l.members);
}
