use Rattle.std.proofs.Common.{◌≡◌, false, ◌++◌, map, take, ap, sym, ◌∙◌, option_to_list, arith}
use Rattle.trex_profile.specs.Cross.{flow_number, flows, has_flow}
use Rattle.trex_profile.specs.Member.{member_stream}
use Rattle.trex_profile.proofs.FlowNumbers.{flow-next}
use Rattle.trex_profile.proofs.Lists.{kept-more}
use Rattle.trex_profile.proofs.rules.flows.differ_in_flows.Goals as goal

pub loop-at-preserved : goal.loop-at-preserved
loop-at-preserved c =
    let number = flow_number (member_stream c.index-members-at.result) in
    let absent : has_flow c.loop-at.found.keys number ≡ false = ap (has_flow c.loop-at.found.keys) (sym c.number_of.ensures) ∙ sym c.in_ok-note.ensures.again ∙ c.if-branch.false in
    record {
      keys = c.in_ok-note.ensures.noted c.if-branch.false ∙ ap (λ keys. keys ++ option_to_list c.number_of.result) c.loop-at.invariant.keys
          ∙ ap (λ more. flows (take c.loop-at.at (map member_stream c.args.members.now)) ++ option_to_list more) c.number_of.ensures
          ∙ sym (kept-more flow_number member_stream c.args.members.now c.loop-at.at c.index-members-at.result (omega arith) c.index-members-at.is);
      left = flow-next c.args.members.now c.loop-at.at c.index-members-at.result c.loop-at.found.keys (omega arith) c.index-members-at.is c.loop-at.invariant.keys absent
          ∙ c.loop-at.invariant.left;
    }
