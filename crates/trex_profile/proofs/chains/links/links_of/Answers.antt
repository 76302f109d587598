use Rattle.std.proofs.Common.{[], ◌∷◌, ◌++◌, All, length, map, take, subst, sym, ap, ◌∙◌}
use Rattle.std.proofs.lemmas.List.Elements.{All-push}
use Rattle.trex_profile.specs.Links.{effective_next}
use Rattle.trex_profile.specs.Member.{member_stream}
use Rattle.trex_profile.specs.Visits.{IsLink}
use Rattle.trex_profile.proofs.Lists.{map-more}
use Rattle.trex_profile.proofs.chains.links.links_of.Goals as goal

pub loop-member-preserved : goal.loop-member-preserved
loop-member-preserved c =
    let members = c.args.members.now in
    let at = c.loop-member.member-index in
    let streams = map member_stream members in
    let pushed = c.in_ok-push.ensures.items in
    record {
      made = pushed ∙ ap (λ front. front ++ c.effective_next.result ∷ []) c.loop-member.invariant.made
          ∙ ap (λ next. map (effective_next streams) (map member_stream (take at members)) ++ next ∷ []) c.effective_next.ensures.value
          ∙ sym (map-more (effective_next streams) member_stream members at c.member-item.result c.loop-member-test.true c.member-item.is);
      within = subst (All (IsLink (length members))) (sym pushed)
          (All-push (IsLink (length members)) c.loop-member.all.items c.effective_next.result c.loop-member.invariant.within c.effective_next.ensures.within);
    }
