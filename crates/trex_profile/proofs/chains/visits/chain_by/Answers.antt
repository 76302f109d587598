use Rattle.std.proofs.Common.{◌++◌, [], ◌∷◌, get_or, map, sym, ◌∙◌, ap, arith}
use Rattle.trex_profile.specs.Chains.{leg_of}
use Rattle.trex_profile.specs.Member.{member_stream}
use Rattle.trex_profile.proofs.Members.{leg_of-at}
use Rattle.trex_profile.proofs.Visiting.{filter_map-more}
use Rattle.trex_profile.proofs.chains.visits.chain_by.Goals as goal

pub loop-at-preserved : goal.loop-at-preserved
loop-at-preserved c =
    c.in_ok-push.ensures.items ∙ ap (λ legs. legs ++ c.leg.result ∷ []) c.loop-at.invariant
    ∙ sym (filter_map-more (leg_of (map member_stream c.args.members.now)) c.args.visited.now.order.items c.loop-at.at-index c.leg.result (omega arith)
    (leg_of-at c.args.members.now (get_or c.args.visited.now.order.items c.loop-at.at-index 0) c.index-members-at.result c.leg.result
    (c.requires.within c.loop-at.at-index 0 (omega arith)) (rw (← c.deref-at-items.ensures.value) c.index-members-at.is) (rw (← c.deref-at-items.ensures.value) c.leg.ensures)))
