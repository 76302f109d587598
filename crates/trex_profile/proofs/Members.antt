-- The streams of a list of members.
use Rattle.std.proofs.Common.{◌≡◌, ℕ, ◌+◌, ◌<◌, Bool, false, List, [], ◌∷◌, ◌++◌, length, get_or, map, take, drop, Option, Some, None, option_map, if◌then◌else◌, refl, sym, ap, ◌∙◌, arith}
use Rattle.std.specs.Prelude.{slice_get}
use Rattle.std.proofs.lemmas.Option.{slice_get-get_or}
use Rattle.std.proofs.lemmas.List.{get_or-map, length-map, take_more}
use Rattle.trex_sched.specs.declared.chain.Leg.{Leg}
use Rattle.trex_profile.specs.declared.member.Member.{Member}
use Rattle.trex_profile.specs.declared.chains.reach.Reach.{Reach}
use Rattle.trex_profile.specs.declared.chains.reach.Reach.TheVariants.{Nowhere, From, Shared}
use Rattle.trex_profile.specs.declared.rule.Rule.TheVariants.{SharedStream}
use Rattle.trex_profile.specs.Chains.{leg_at, leg_of}
use Rattle.trex_profile.specs.Cross.{rule_at, duplicate_refusal, shared_refusal}
use Rattle.trex_profile.specs.Links.{ids}
use Rattle.trex_profile.specs.Member.{member_stream}
use Rattle.trex_profile.specs.Order.{first_each}
use Rattle.trex_profile.specs.Refusal.{whole_stream, in_stream}
use Rattle.trex_profile.specs.Stream.{Stream}
use Rattle.trex_profile.specs.Visits.{has, reach_at, is_shared}
use Rattle.trex_profile.proofs.OrderLemmas.{first_each-here, first_each-next}

-- the stream of the member at a position
stream-at : (members : List Member) (at : ℕ) (m : Member) → at < length members → m ≡ get_or members at m
    → get_or (map member_stream members) at (member_stream m) ≡ member_stream m
stream-at members at m small is = get_or-map member_stream members at m (member_stream m) small ∙ ap member_stream (sym is)

-- the leg of the member at a position
pub leg_of-at : (members : List Member) (at : ℕ) (m : Member) (leg : Leg) → at < length members → m ≡ get_or members at m → leg ≡ leg_at at (member_stream m)
    → leg_of (map member_stream members) at ≡ Some leg
leg_of-at members at m leg small is leg_is =
    let found : slice_get (map member_stream members) at ≡ Some (get_or (map member_stream members) at (member_stream m)) =
    slice_get-get_or (map member_stream members) at (member_stream m) (rw length-map small) in
    ap (option_map (leg_at at)) (found ∙ ap Some (stream-at members at m small is)) ∙ ap Some (sym leg_is)

-- the ids of one member more
pub ids-more : (members : List Member) (at : ℕ) (m : Member) (keys new : List ℕ) → at < length members → m ≡ get_or members at m → keys ≡ take at (ids (map member_stream members))
    → has keys m.spec.id ≡ false → new ≡ (if has keys m.spec.id then keys else keys ++ m.spec.id ∷ []) → new ≡ take (at + 1) (ids (map member_stream members))
ids-more members at m keys new small is front absent new_is =
    let inside : at < length (map member_stream members) = rw length-map small in
    let all_inside : at < length (ids (map member_stream members)) = rw length-map inside in
    let id : get_or (ids (map member_stream members)) at 0 ≡ m.spec.id =
    get_or-map (λ (s : Stream). s.id) (map member_stream members) at (member_stream m) 0 inside ∙ ap (λ (s : Stream). s.id) (stream-at members at m small is) in
    new_is ∙ ap (λ (b : Bool). if b then keys else keys ++ m.spec.id ∷ []) absent ∙ ap (λ (k : List ℕ). k ++ m.spec.id ∷ []) front
    ∙ ap (λ (x : ℕ). take at (ids (map member_stream members)) ++ x ∷ []) (sym id) ∙ sym (take_more (ids (map member_stream members)) at 0 all_inside)

-- an id that is new breaks no rule
pub duplicate-none : (all keys : List ℕ) (at : ℕ) (s : Stream) → keys ≡ take at all → has keys s.id ≡ false → duplicate_refusal all at s ≡ None
duplicate-none all keys at s front absent =
    let new : has (take at all) s.id ≡ false = ap (λ (k : List ℕ). has k s.id) (sym front) ∙ absent in rw new

-- the rest of the members, where this one's id is new
pub duplicate-next : (members : List Member) (at : ℕ) (m : Member) (keys : List ℕ) → at < length members → m ≡ get_or members at m → keys ≡ take at (ids (map member_stream members))
    → has keys m.spec.id ≡ false
    → first_each (duplicate_refusal (ids (map member_stream members))) (at + 1) (map member_stream (drop (at + 1) members))
    ≡ first_each (duplicate_refusal (ids (map member_stream members))) at (map member_stream (drop at members))
duplicate-next members at m keys small is front absent =
    first_each-next (duplicate_refusal (ids (map member_stream members))) member_stream members at m small
    (ap (λ (x : Member). duplicate_refusal (ids (map member_stream members)) at (member_stream x)) (sym is) ∙ duplicate-none (ids (map member_stream members)) keys at (member_stream m) front absent)

-- a shared position is refused
pub shared-here : (links : List (Option ℕ)) (starts : List ℕ) (members : List Member) (at : ℕ) → at < length members → reach_at links starts at ≡ Shared
    → first_each (shared_refusal links starts) at (map member_stream (drop at members)) ≡ Some (in_stream at (whole_stream SharedStream))
shared-here links starts [] at small is = absurd (omega arith)
shared-here links starts (m ∷ members) at small is =
    first_each-here (shared_refusal links starts) member_stream (m ∷ members) at m (in_stream at (whole_stream SharedStream)) small (ap (λ (r : Reach). rule_at SharedStream at (is_shared r)) is)

not_shared : (r : Reach) → (r ≡ Shared → ⊥) → is_shared r ≡ false
not_shared Nowhere other = refl
not_shared (From start) other = refl
not_shared Shared other = absurd (other refl)

-- the rest of the members, where this one isn't shared
pub shared-next : (links : List (Option ℕ)) (starts : List ℕ) (members : List Member) (at : ℕ) → at < length members → (reach_at links starts at ≡ Shared → ⊥)
    → first_each (shared_refusal links starts) (at + 1) (map member_stream (drop (at + 1) members)) ≡ first_each (shared_refusal links starts) at (map member_stream (drop at members))
shared-next links starts [] at small other = absurd (omega arith)
shared-next links starts (m ∷ members) at small other =
    first_each-next (shared_refusal links starts) member_stream (m ∷ members) at m small (ap (λ (b : Bool). rule_at SharedStream at b) (not_shared (reach_at links starts at) other))
