use Rattle.std.proofs.Common.{◌≡◌, ℕ, ◌<◌, List, [], ◌∷◌, None, map, refl, sym, ap, ◌∙◌, subst}
use Rattle.std.specs.List.{AllByRecursion}
use Rattle.trex_merge.specs.Frames.{Frame, key_of}
use Rattle.trex_merge.specs.Order.{AreDistinct, IsRising}
use Rattle.trex_merge.proofs.FrameLemmas.{distinct-map, map-ordered}
use Rattle.trex_merge.proofs.OrderLemmas.{distinct-ordered, rising-ordered}
use Rattle.trex_profile.specs.Admission.{refusal_of}
use Rattle.trex_profile.specs.Chains.{chains_of}
use Rattle.trex_sched.specs.declared.slot.Slot.{Slot}
use Rattle.trex_sched.specs.Entries.{key_of as slot_key}
use Rattle.trex_sched.specs.Walks.{all_entries}
use Rattle.trex_core.specs.Plan.{PlanOf, frame_at, schedule}
use Rattle.trex_core.proofs.Slots.{all-ordered, all_below}
use Rattle.trex_core.proofs.laws.plans_rise.Goals as goal

-- the packets of the plan's chains
abbrev sent : PlanOf → List Slot
sent plan = all_entries (chains_of plan.profile) plan.duration

apart : (c : goal.After-profiles_can_be_walked) (plan : PlanOf) → refusal_of plan.profile ≡ None → AreDistinct slot_key (sent plan)
apart c plan kept =
    c.chains_are_apart.ensures (chains_of plan.profile) plan.duration
    (c.profiles_can_be_walked.ensures.walkable plan.profile kept) (c.profiles_can_be_walked.ensures.distinct plan.profile kept)

pub returns-clause-rising : goal.returns-clause-rising
unfolding schedule
returns-clause-rising c plan kept =
    let frame = frame_at plan.profile plan.base in
    subst (IsRising key_of) (sym (map-ordered slot_key key_of frame (λ x. refl) (sent plan)))
    (rising-ordered key_of (map frame (sent plan)) (distinct-map slot_key key_of frame (λ x. refl) (sent plan) (apart c plan kept)))

pub returns-clause-distinct : goal.returns-clause-distinct
unfolding schedule
returns-clause-distinct c plan kept =
    distinct-map slot_key key_of (frame_at plan.profile plan.base) (λ x. refl) (schedule plan.profile plan.duration)
    (distinct-ordered slot_key (sent plan) (apart c plan kept))

pub returns-clause-kept : goal.returns-clause-kept
unfolding schedule
returns-clause-kept c plan kept =
    let frame = frame_at plan.profile plan.base in
    let slots = schedule plan.profile plan.duration in
    let given = apart c plan kept in
    sym (map-ordered slot_key key_of frame (λ x. refl) slots)
    ∙ ap (map frame) (c.order_is_unique.ensures.kept slots (distinct-ordered slot_key (sent plan) given) (rising-ordered slot_key (sent plan) given))

-- what holds of each packet's time holds of the packet with its bytes
all_frames : (frame : Slot → Frame) (d : ℕ) (slots : List Slot) → ((slot : Slot) → (frame slot).time ≡ slot.time) → AllByRecursion (λ slot. slot.time < d) slots
    → AllByRecursion (λ f. f.time < d) (map frame slots)
all_frames frame d [] same all = tt
all_frames frame d (slot ∷ slots) same all = (subst (λ t. t < d) (sym (same slot)) all.0, all_frames frame d slots same all.1)

pub returns-clause-below : goal.returns-clause-below
unfolding schedule
returns-clause-below c plan =
    all_frames (frame_at plan.profile plan.base) plan.duration (schedule plan.profile plan.duration) (λ slot. refl)
    (all-ordered (λ slot. slot.time < plan.duration) (sent plan)
    (all_below plan.duration (chains_of plan.profile) (λ chain. c.entries_rise.ensures.below chain plan.duration)))
