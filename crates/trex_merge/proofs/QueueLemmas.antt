-- What comes next, in the words of the queues.
use Rattle.std.proofs.Common.{◌≡◌, ◌↔◌, ℕ, zero, suc, ◌+◌, ◌-◌, ◌<◌, length, ◌⊎◌, inl, inr, ◌&&◌, not, true, false, cond, Option, None, Some, List, [], ◌∷◌, ◌++◌, refl, ◌∙◌, subst, arith}
use Rattle.std.specs.List.{AllByRecursion, slice_get}
use Rattle.trex_merge.specs.declared.next.Next.TheVariants.{End, Need, Packet}
use Rattle.trex_merge.specs.declared.place.Place.{Place}
use Rattle.trex_merge.specs.Frames.{Frame, key_of}
use Rattle.trex_merge.specs.Heads.{earlier_of, head_at, least_from}
use Rattle.trex_merge.specs.Machine.{IsEnded, MillState, next_in}
use Rattle.trex_merge.specs.Queues.{IsLeastAt, IsNeedyFirst, Queue, all_waiting, is_needy, is_none_left, needy_from, next_among, next_of, stem}
use Rattle.trex_merge.proofs.Least.{begin_not_before, least_is, least_none}

-- ---- cores that have to be waited for

-- no core has to be waited for
abbrev pub AllServed : List Queue → Type 0
AllServed queues = AllByRecursion (λ queue. is_needy queue ≡ false) queues

-- where no core is the first that has to be waited for, none has to be
pub needy_none : (from : ℕ) (queues : List Queue) → needy_from from queues ≡ None → AllServed queues
needy_none from [] none = tt
needy_none from (queue ∷ queues) none =
    elim (is_needy queue) as (λ t. cond t (Some from) (needy_from (from + 1) queues) ≡ None → (t ≡ false) × AllServed queues) [
      | true ↦ λ e. cc
      | false ↦ λ e. (refl, needy_none (from + 1) queues e)
    ] none

-- The first core that has to be waited for, where the first queue is that of a core.
record IsNeedyFrom (from : ℕ) (queues : List Queue) (core : ℕ) : Type 0 where
  at : ℕ
  stands : core ≡ from + at
  is : IsNeedyFirst at queues

needy_is : (from : ℕ) (queues : List Queue) (core : ℕ) → needy_from from queues ≡ Some core → IsNeedyFrom from queues core
needy_is from [] core found = cc
needy_is from (queue ∷ queues) core found =
    elim (is_needy queue) as (λ t. is_needy queue ≡ t → cond t (Some from) (needy_from (from + 1) queues) ≡ Some core → IsNeedyFrom from (queue ∷ queues) core) [
      | true ↦ λ needy e. let same : from ≡ core = cc in
          record { at = zero; stands = omega arith; is = record { queue = queue; there = refl; needy = needy; served = tt } }
      | false ↦ λ served e.
          let later = needy_is (from + 1) queues core e in
          record {
            at = suc later.at;
            stands = later.stands ∙ omega arith;
            is = record { queue = later.is.queue; there = later.is.there; needy = later.is.needy; served = (served, later.is.served) };
          }
    ] refl found

-- ---- what comes next

-- a packet comes next only where one more may be sent
pub more_left : (more at : ℕ) (queues : List Queue) → next_of more queues ≡ Packet at → 0 < more
more_left zero at queues next = cc
more_left (suc more) at queues next = omega arith

pub packet_is_least : (more at : ℕ) (queues : List Queue) → next_of more queues ≡ Packet at → IsLeastAt at queues
packet_is_least zero at queues next = cc
packet_is_least (suc more) at queues next =
    elim (needy_from 0 queues) as (λ n. needy_from 0 queues ≡ n → next_among n (least_from key_of 0 (all_waiting queues)) ≡ Packet at → IsLeastAt at queues) [
      | Some core ↦ λ needy e. cc
      | None ↦ λ none e.
          elim (least_from key_of 0 (all_waiting queues)) as (λ o. least_from key_of 0 (all_waiting queues) ≡ o → next_among None o ≡ Packet at → IsLeastAt at queues) [
            | None ↦ λ empty e'. cc
            | Some place ↦ λ found e'.
                let least = least_is key_of 0 (all_waiting queues) place found in
                let here : place.feed ≡ at = cc in
                let same : least.at ≡ at = omega (arith, least.stands) in
                record {
                  frame = least.x;
                  rest = least.rest;
                  there = subst (λ (k : ℕ). slice_get (all_waiting queues) k ≡ Some (least.x ∷ least.rest)) same least.there;
                  least = begin_not_before key_of least.x place.key (all_waiting queues) least.is least.least;
                  served = needy_none 0 queues none;
                }
          ] refl e
    ] refl next

pub need_is_first : (more core : ℕ) (queues : List Queue) → next_of more queues ≡ Need core → IsNeedyFirst core queues
need_is_first zero core queues next = cc
need_is_first (suc more) core queues next =
    elim (needy_from 0 queues) as (λ n. needy_from 0 queues ≡ n → next_among n (least_from key_of 0 (all_waiting queues)) ≡ Need core → IsNeedyFirst core queues) [
      | Some first ↦ λ needy e.
          let here : first ≡ core = cc in
          let found = needy_is 0 queues first needy in
          let same : found.at ≡ core = omega (arith, found.stands) in
          subst (λ (k : ℕ). IsNeedyFirst k queues) same found.is
      | None ↦ λ none e. absurd (never (least_from key_of 0 (all_waiting queues)) e)
    ] refl next
  where
    never : (best : Option Place) → next_among None best ≡ Need core → ⊥
    never None e = cc
    never (Some place) e = cc

-- nothing is left
abbrev pub AllSent : List Queue → Type 0
AllSent queues = AllByRecursion (λ queue. stem queue ≡ []) queues

-- what a core that needn't be waited for has to come waits behind what waits
pub stem_none : (queue : Queue) → is_needy queue ≡ false → queue.waiting ≡ [] → stem queue ≡ []
stem_none queue served empty = stems queue.waiting queue.coming served empty
  where
    stems : (waiting coming : List Frame) → (is_none_left waiting && not (is_none_left coming)) ≡ false → waiting ≡ [] → waiting ++ coming ≡ []
    stems [] [] served empty = refl
    stems [] (frame ∷ coming) served empty = cc
    stems (frame ∷ waiting) coming served empty = cc

all_sent : (queues : List Queue) → AllServed queues → AllByRecursion (λ xs. xs ≡ []) (all_waiting queues) → AllSent queues
all_sent [] served empty = tt
all_sent (queue ∷ queues) served empty = (stem_none queue served.0 empty.0, all_sent queues served.1 empty.1)

pub end_is_all : (more : ℕ) (queues : List Queue) → next_of more queues ≡ End → (more ≡ 0) ⊎ AllSent queues
end_is_all zero queues next = inl refl
end_is_all (suc more) queues next =
    elim (needy_from 0 queues) as (λ n. needy_from 0 queues ≡ n → next_among n (least_from key_of 0 (all_waiting queues)) ≡ End → (suc more ≡ 0) ⊎ AllSent queues) [
      | Some core ↦ λ needy e. cc
      | None ↦ λ none e.
          elim (least_from key_of 0 (all_waiting queues)) as (λ o. least_from key_of 0 (all_waiting queues) ≡ o → next_among None o ≡ End → (suc more ≡ 0) ⊎ AllSent queues) [
            | None ↦ λ empty e'. inr (all_sent queues (needy_none 0 queues none) (least_none key_of 0 (all_waiting queues) empty))
            | Some place ↦ λ found e'. cc
          ] refl e
    ] refl next

-- where nothing is left, no core has to be waited for and none has a first packet
nothing_next : (from : ℕ) (queues : List Queue) → AllSent queues → (needy_from from queues ≡ None) × (least_from key_of from (all_waiting queues) ≡ None)
nothing_next from [] sent = (refl, refl)
nothing_next from (queue ∷ queues) sent = nothing_there from (needy_from (from + 1) queues) (least_from key_of (from + 1) (all_waiting queues)) queue.waiting queue.coming sent.0 (nothing_next (from + 1) queues sent.1)
  where
    nothing_there : (from : ℕ) (needy : Option ℕ) (best : Option Place) (waiting coming : List Frame) → waiting ++ coming ≡ [] → (needy ≡ None) × (best ≡ None)
        → (cond (is_none_left waiting && not (is_none_left coming)) (Some from) needy ≡ None) × (earlier_of (head_at key_of from waiting) best ≡ None)
    nothing_there from needy best [] [] empty later = later
    nothing_there from needy best [] (frame ∷ coming) empty later = cc
    nothing_there from needy best (frame ∷ waiting) coming empty later = cc

pub all_is_end : (more : ℕ) (queues : List Queue) → (more ≡ 0) ⊎ AllSent queues → next_of more queues ≡ End
all_is_end zero queues either = refl
all_is_end (suc more) queues (inl none) = cc
all_is_end (suc more) queues (inr sent) =
    let nothing = nothing_next 0 queues sent in
    rw (nothing.0, nothing.1) refl

-- the end comes next exactly where the state is ended
pub end_is_ended : (state : MillState) → (next_in state ≡ End) ↔ IsEnded state
end_is_ended state =
    let more = state.limit - length state.sent in (
      (λ next. elim (end_is_all more state.queues next) [ inl none ↦ inl (omega (arith, none)) | inr sent ↦ inr sent ]),
      (λ ended. all_is_end more state.queues (elim ended [ inl full ↦ inl (omega (arith, full)) | inr sent ↦ inr sent ])),
    )
