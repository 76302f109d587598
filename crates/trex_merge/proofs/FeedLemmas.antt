-- One feed more is looked at, and one feed's first packet is taken.
use Rattle.std.proofs.Common.{◌≡◌, ◌≢◌, ℕ, zero, suc, ◌+◌, ◌<◌, ◌&&◌, not, Bool, true, false, cond, Option, None, Some, List, [], ◌∷◌, add-one, drop, get_or, length, map, set, refl, sym, ap, ◌∙◌, subst, arith}
use Rattle.std.proofs.Math.Seq.{drop-cons}
use Rattle.std.specs.List.{slice_get}
use Rattle.trex_merge.specs.declared.place.Place.{Place}
use Rattle.trex_merge.specs.Frames.{Frame, key_of}
use Rattle.trex_merge.specs.Heads.{earlier_of, head_at, least_from}
use Rattle.trex_merge.specs.Queues.{Queue, all_waiting, at_place, is_finished, is_needy, is_none_left, needy_from}
use Rattle.trex_merge.proofs.Least.{earlier_assoc}

-- ---- what a feed shows

-- a place that comes before none is the best
pub earlier_none : (best : Option Place) → earlier_of best None ≡ best
earlier_none None = refl
earlier_none (Some place) = refl

-- where a packet waits first, the core needn't be waited for
pub waits : (queue : Queue) (frame : Frame) → Some frame ≡ slice_get queue.waiting 0 → is_needy queue ≡ false
waits queue frame first = one queue.waiting queue.coming first
  where
    one : (waiting coming : List Frame) → Some frame ≡ slice_get waiting 0 → (is_none_left waiting && not (is_none_left coming)) ≡ false
    one [] coming first = cc
    one (x ∷ waiting) coming first = refl

-- its place is that of the least it has
pub waits_at : (at : ℕ) (waiting : List Frame) (frame : Frame) → Some frame ≡ slice_get waiting 0 → head_at key_of at waiting ≡ Some (record { key = key_of frame; feed = at })
waits_at at [] frame first = cc
waits_at at (x ∷ waiting) frame first = let same : frame ≡ x = cc in ap (λ (f : Frame). Some (record { key = key_of f; feed = at })) (sym same)

-- where nothing waits, the core has no place
pub none_waits_at : (at : ℕ) (waiting : List Frame) → None ≡ slice_get waiting 0 → head_at key_of at waiting ≡ None
none_waits_at at [] first = refl
none_waits_at at (x ∷ waiting) first = cc

-- a finished core needn't be waited for
pub finished_served : (queue : Queue) → is_finished queue ≡ true → is_needy queue ≡ false
finished_served queue finished = one (is_none_left queue.waiting) (is_none_left queue.coming) finished
  where
    one : (w c : Bool) → (w && c) ≡ true → (w && not c) ≡ false
    one false c finished = refl
    one true false finished = cc
    one true true finished = refl

-- ---- one feed more

-- a feed and those after it
front : {T : Type 0} (feeds : List T) (at : ℕ) (feed : T) → at < length feeds → feed ≡ get_or feeds at feed → drop at feeds ≡ feed ∷ drop (at + 1) feeds
front {T = T} feeds at feed within is =
    drop-cons feeds at feed within ∙ ap (λ (x : T). x ∷ drop (suc at) feeds) (sym is) ∙ ap (λ (n : ℕ). feed ∷ drop n feeds) (sym (add-one at))

-- What is known of the feeds from one on: which of them has to be waited for first, and what is the least of the best so far and their first packets.
abbrev pub StandsAt : {T : Type 0} → (T → Queue) → List T → ℕ → Option Place → Option ℕ → Option Place → Type 0
StandsAt queue feeds at best needy least =
    (needy_from at (map queue (drop at feeds)) ≡ needy) × (earlier_of best (least_from key_of at (all_waiting (map queue (drop at feeds)))) ≡ least)

pub feed_passed : {T : Type 0} (queue : T → Queue) (feeds : List T) (at : ℕ) (feed : T) (best now : Option Place) (needy : Option ℕ) (least : Option Place)
    → at < length feeds → feed ≡ get_or feeds at feed → is_needy (queue feed) ≡ false → now ≡ earlier_of best (head_at key_of at (queue feed).waiting)
    → StandsAt queue feeds at best needy least → StandsAt queue feeds (at + 1) now needy least
feed_passed {T = T} queue feeds at feed best now needy least within is served next stands =
    let rest = drop (at + 1) feeds in
    let there = subst (λ (l : List T). (needy_from at (map queue l) ≡ needy) × (earlier_of best (least_from key_of at (all_waiting (map queue l))) ≡ least)) (front feeds at feed within is) stands in
    let later = needy_from (at + 1) (map queue rest) in
    let others = least_from key_of (at + 1) (all_waiting (map queue rest)) in (
      ap (λ (t : Bool). cond t (Some at) later) (sym served) ∙ there.0,
      ap (λ (o : Option Place). earlier_of o others) next ∙ earlier_assoc best (head_at key_of at (queue feed).waiting) others ∙ there.1,
    )

-- ---- one feed's first packet

-- where a packet waits at a place, a feed stands there
pub feed_within : {T : Type 0} (queue : T → Queue) (feeds : List T) (at : ℕ) (x : List Frame) → slice_get (all_waiting (map queue feeds)) at ≡ Some x → at < length feeds
feed_within queue [] at x there = cc
feed_within queue (feed ∷ feeds) zero x there = omega arith
feed_within queue (feed ∷ feeds) (suc at) x there = omega (arith, feed_within queue feeds at x there)

-- and the packet waits at it
pub feed_waits : {T : Type 0} (queue : T → Queue) (feeds : List T) (at : ℕ) (d : T) (frame : Frame) (rest : List Frame)
    → slice_get (all_waiting (map queue feeds)) at ≡ Some (frame ∷ rest) → 0 < length (queue (get_or feeds at d)).waiting
feed_waits queue [] at d frame rest there = cc
feed_waits queue (feed ∷ feeds) zero d frame rest there =
    let waits : (queue feed).waiting ≡ frame ∷ rest = cc in
    subst (λ (l : List Frame). 0 < length l) (sym waits) (omega arith)
feed_waits queue (feed ∷ feeds) (suc at) d frame rest there = feed_waits queue feeds at d frame rest there

-- a feed that is as a change leaves it
pub map-at_place : {T X : Type 0} (f : T → X) (change : X → X) (feeds : List T) (at : ℕ) (d new : T) → f new ≡ change (f (get_or feeds at d))
    → map f (set feeds at new) ≡ at_place change at (map f feeds)
map-at_place f change [] at d new is = refl
map-at_place {X = X} f change (feed ∷ feeds) zero d new is = ap (λ (x : X). x ∷ map f feeds) is
map-at_place {X = X} f change (feed ∷ feeds) (suc at) d new is = ap (λ (l : List X). f feed ∷ l) (map-at_place f change feeds at d new is)

-- the others stay
pub slice_get-set_other : {T : Type 0} (feeds : List T) (at k : ℕ) (new : T) → k ≢ at → slice_get (set feeds at new) k ≡ slice_get feeds k
slice_get-set_other [] at k new other = refl
slice_get-set_other (feed ∷ feeds) zero zero new other = absurd (other refl)
slice_get-set_other (feed ∷ feeds) zero (suc k) new other = refl
slice_get-set_other (feed ∷ feeds) (suc at) zero new other = refl
slice_get-set_other (feed ∷ feeds) (suc at) (suc k) new other = slice_get-set_other feeds at k new (λ same. other (ap suc same))
