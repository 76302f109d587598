use Rattle.std.proofs.Common.{◌≡◌, ◌==◌, ◌%◌, List, map, refl, sym, ap, ◌∙◌, subst}
use Rattle.std.specs.List.{AllByRecursion, filter}
use Rattle.trex_merge.specs.Frames.{key_of}
use Rattle.trex_merge.specs.Order.{AreDistinct, ordered}
use Rattle.trex_merge.proofs.FrameLemmas.{map-filter, map-ordered}
use Rattle.trex_merge.proofs.OrderLemmas.{distinct-ordered, rising-ordered}
use Rattle.trex_profile.specs.Chains.{chains_of}
use Rattle.trex_sched.specs.Chain.{Chain, IsChain}
use Rattle.trex_sched.specs.Entries.{key_of as slot_key, share as share_of_slots}
use Rattle.trex_sched.specs.Walks.{HaveDistinctStreams, all_entries}
use Rattle.trex_core.specs.Plan.{IsSlotOf, PlanOf, frame_at, schedule}
use Rattle.trex_core.proofs.Slots.{all-filter, all-ordered, all_slots}
use Rattle.trex_core.proofs.plan.Plan.walks.Goals as goal

-- the walks are the core's part of the schedule
walks_are : (c : goal.In_ok-walks) → c.in_ok-walks.walks ≡ share_of_slots c.args.core c.args.cores (schedule c.args.self.now.profile c.args.self.now.duration)
unfolding schedule
walks_are c =
    c.in_ok-walks.ensures
    ∙ ap (λ (chains : List Chain). share_of_slots c.args.core c.args.cores (ordered slot_key (all_entries chains c.self.inside.duration))) c.chains.ensures.chains
    ∙ ap (λ p. share_of_slots c.args.core c.args.cores (ordered slot_key (all_entries (chains_of p.profile) p.duration))) c.self.view_is

pub returns-clause-share : goal.returns-clause-share
unfolding schedule
returns-clause-share c =
    let plan = c.args.self.now in
    let frame = frame_at plan.profile plan.base in
    let sent = all_entries (chains_of plan.profile) plan.duration in
    let slots = schedule plan.profile plan.duration in
    let are : AllByRecursion IsChain (chains_of c.self.inside.profile.now) = subst (AllByRecursion IsChain) c.chains.ensures.chains c.chains.ensures.walkable in
    let streams : HaveDistinctStreams (chains_of c.self.inside.profile.now) = subst HaveDistinctStreams c.chains.ensures.chains c.chains.ensures.distinct in
    let apart : AreDistinct slot_key sent =
    subst (λ (p : PlanOf). AreDistinct slot_key (all_entries (chains_of p.profile) p.duration)) c.self.view_is
    (c.chains_are_apart.ensures (chains_of c.self.inside.profile.now) c.self.inside.duration are streams) in
    let again : ordered slot_key slots ≡ slots =
    c.order_is_unique.ensures.kept slots (distinct-ordered slot_key sent apart) (rising-ordered slot_key sent apart) in
    ap (map frame) (walks_are c)
    ∙ map-filter frame (λ x. x.number % c.args.cores == c.args.core) (λ y. y.number % c.args.cores == c.args.core) (λ x. refl) slots
    ∙ ap (filter (λ y. y.number % c.args.cores == c.args.core))
    (sym (sym (map-ordered slot_key key_of frame (λ x. refl) slots) ∙ ap (map frame) again))

pub returns-clause-slots : goal.returns-clause-slots
unfolding schedule
returns-clause-slots c =
    let plan = c.self.inside in
    let p = plan.profile.now in
    let are : AllByRecursion IsChain (chains_of p) = subst (AllByRecursion IsChain) c.chains.ensures.chains c.chains.ensures.walkable in
    let all : AllByRecursion (IsSlotOf p) (all_entries (chains_of p) plan.duration) =
    all_slots p plan.duration (chains_of p) c.self.invariant.0 are (c.profiles_can_be_walked.ensures.streams p)
    (λ chain. c.entries_rise.ensures.below chain plan.duration) (λ chain. c.entries_rise.ensures.numbers chain plan.duration)
    (λ chain. c.entries_rise.ensures.places chain plan.duration) (λ chain. c.entries_rise.ensures.streams chain plan.duration) in
    let kept : AllByRecursion (IsSlotOf p) (share_of_slots c.args.core c.args.cores (schedule p plan.duration)) =
    all-filter (IsSlotOf p) (λ x. x.number % c.args.cores == c.args.core) (schedule p plan.duration)
    (all-ordered (IsSlotOf p) (all_entries (chains_of p) plan.duration) all) in
    subst (AllByRecursion (IsSlotOf c.args.self.now.profile)) (sym (walks_are c))
    (subst (λ (q : PlanOf). AllByRecursion (IsSlotOf q.profile) (share_of_slots c.args.core c.args.cores (schedule q.profile q.duration))) c.self.view_is kept)
