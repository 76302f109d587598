-- Each core's share stays what it is.
use Rattle.std.proofs.Common.{◌≡◌, ◌≢◌, ℕ, zero, suc, ◌+◌, ◌-◌, ◌%◌, ◌==◌, Bool, cond, inl, inr, Some, List, [], ◌∷◌, ◌++◌, append_assoc, length, map, drop, refl, sym, ap, ◌∙◌, subst, arith}
use Rattle.std.proofs.lemmas.Bool.{eq-eqb, eqb-true, ne_eqb}
use Rattle.std.proofs.lemmas.List.Elements.{filter-append}
use Rattle.std.proofs.lemmas.List.{append-nil}
use Rattle.std.specs.List.{range_with_len, slice_get}
use Rattle.trex_merge.specs.declared.next.Next.TheVariants.{End, Need, Packet}
use Rattle.trex_merge.specs.Frames.{Frame, key_of, share}
use Rattle.trex_merge.specs.Machine.{Emit, HaveShares, MillState, Refill, emitted, happens, next_in, sent_by, start}
use Rattle.trex_merge.specs.Order.{Has, ordered}
use Rattle.trex_merge.specs.Queues.{Queue, all_waiting, at_place, popped, refilled, stem}
use Rattle.trex_merge.proofs.QueueLemmas.{packet_is_least}
use Rattle.trex_merge.proofs.EventLemmas.{first_waits, stem-refilled}
use Rattle.trex_merge.proofs.OrderLemmas.{has-filter}
use Rattle.trex_merge.proofs.ListLemmas.{has-append}

-- ---- a core's queue after a change

-- The queue at a place was there before, or it is that of the place as the change left it.
data WasAt (change : Queue → Queue) (at core : ℕ) (queues : List Queue) (queue : Queue) : Type 0 where
  stayed : core ≢ at → slice_get queues core ≡ Some queue → WasAt change at core queues queue
  changed : (old : Queue) → core ≡ at → slice_get queues core ≡ Some old → queue ≡ change old → WasAt change at core queues queue

was_at : (change : Queue → Queue) (at core : ℕ) (queues : List Queue) (queue : Queue) → slice_get (at_place change at queues) core ≡ Some queue → WasAt change at core queues queue
was_at change at core [] queue there = cc
was_at change zero zero (first ∷ queues) queue there = let same : queue ≡ change first = cc in changed first refl refl same
was_at change zero (suc core) (first ∷ queues) queue there = let other : suc core ≢ zero = λ same. cc in stayed other there
was_at change (suc at) zero (first ∷ queues) queue there = let other : zero ≢ suc at = λ same. cc in stayed other there
was_at change (suc at) (suc core) (first ∷ queues) queue there =
    elim (was_at change at core queues queue there) [
      | stayed other was ↦ let later : suc core ≢ suc at = λ same. other (omega arith) in stayed later was
      | changed old same was is ↦ changed old (ap suc same) was is
    ]

-- ---- the events

pub refill_shares : (frames : List Frame) (cores : ℕ) (state : MillState) (core most : ℕ) → HaveShares cores frames state
    → HaveShares cores frames (happens state (Refill core most))
refill_shares frames cores state at most have core queue there =
    elim (was_at (refilled most) at core state.queues queue there) [
      | stayed other was ↦ have core queue was
      | changed old same was is ↦
          ap (λ (q : Queue). sent_by core cores state.sent ++ stem q) is
          ∙ ap (λ (l : List Frame). sent_by core cores state.sent ++ l) (stem-refilled most old)
          ∙ have core old was
    ]

-- The queue of a core at which a packet waits first.
record StandsFirst (at : ℕ) (queues : List Queue) (frame : Frame) (rest : List Frame) : Type 0 where
  queue : Queue
  there : slice_get queues at ≡ Some queue
  waits : queue.waiting ≡ frame ∷ rest

stands_first : (at : ℕ) (queues : List Queue) (frame : Frame) (rest : List Frame) → slice_get (all_waiting queues) at ≡ Some (frame ∷ rest) → StandsFirst at queues frame rest
stands_first at [] frame rest there = cc
stands_first zero (queue ∷ queues) frame rest there = let waits : queue.waiting ≡ frame ∷ rest = cc in record { queue = queue; there = refl; waits = waits }
stands_first (suc at) (queue ∷ queues) frame rest there =
    let later = stands_first at queues frame rest there in
    record { queue = later.queue; there = later.there; waits = later.waits }

-- what one more packet adds to what a core sent
adds_to : (core cores : ℕ) (sent : List Frame) (frame : Frame) → frame.number % cores ≡ core → sent_by core cores (sent ++ frame ∷ []) ≡ sent_by core cores sent ++ frame ∷ []
adds_to core cores sent frame mine =
    filter-append (λ f. f.number % cores == core) sent (frame ∷ [])
    ∙ ap (λ (t : Bool). sent_by core cores sent ++ cond t (frame ∷ []) []) (eq-eqb (frame.number % cores) core mine)

adds_nothing : (core cores : ℕ) (sent : List Frame) (frame : Frame) → frame.number % cores ≢ core → sent_by core cores (sent ++ frame ∷ []) ≡ sent_by core cores sent
adds_nothing core cores sent frame other =
    filter-append (λ f. f.number % cores == core) sent (frame ∷ [])
    ∙ ap (λ (t : Bool). sent_by core cores sent ++ cond t (frame ∷ []) []) (ne_eqb (frame.number % cores) core other)
    ∙ append-nil (sent_by core cores sent)

-- a packet that stands first at a core is one of its share
number_is : (frames : List Frame) (cores at : ℕ) (sent : List Frame) (queue : Queue) (frame : Frame) (rest : List Frame) → queue.waiting ≡ frame ∷ rest
    → sent_by at cores sent ++ stem queue ≡ share at cores frames
    → frame.number % cores ≡ at
number_is frames cores at sent queue frame rest waits have =
    let first : Has (stem queue) frame = subst (λ (l : List Frame). Has (l ++ queue.coming) frame) (sym waits) (inl refl) in
    let all : Has (sent_by at cores sent ++ stem queue) frame = (has-append (sent_by at cores sent) (stem queue) frame).1 (inr first) in
    let mine : Has (share at cores frames) frame = subst (λ (l : List Frame). Has l frame) have all in
    eqb-true (frame.number % cores) at ((has-filter (λ f. f.number % cores == at) (ordered key_of frames) frame).0 mine).1

packet_shares : (frames : List Frame) (cores : ℕ) (state : MillState) (at : ℕ) → next_in state ≡ Packet at → HaveShares cores frames state
    → HaveShares cores frames (emitted (Packet at) state)
packet_shares frames cores state at next have core queue there =
    let chosen = packet_is_least (state.limit - length state.sent) at state.queues next in
    let frame = chosen.frame in
    let first = first_waits at state.queues frame chosen.rest chosen.there in
    let stands = stands_first at state.queues frame chosen.rest chosen.there in
    let mine = number_is frames cores at state.sent stands.queue frame chosen.rest stands.waits (have at stands.queue stands.there) in
    ap (λ (l : List Frame). sent_by core cores (state.sent ++ l) ++ stem queue) first.sent
    ∙ elim (was_at popped at core state.queues queue there) [
      | stayed other was ↦
          let theirs : frame.number % cores ≢ core = λ same. other (sym same ∙ mine) in
          ap (λ (l : List Frame). l ++ stem queue) (adds_nothing core cores state.sent frame theirs) ∙ have core queue was
      | changed old same was is ↦
          let known : old ≡ stands.queue = let stood = stands.there in cc in
          let waits : old.waiting ≡ frame ∷ chosen.rest = ap (λ (q : Queue). q.waiting) known ∙ stands.waits in
          ap (λ (l : List Frame). l ++ stem queue) (adds_to core cores state.sent frame (mine ∙ sym same))
          ∙ append_assoc (sent_by core cores state.sent) (frame ∷ []) (stem queue)
          ∙ ap (λ (q : Queue). sent_by core cores state.sent ++ frame ∷ stem q) is
          ∙ ap (λ (l : List Frame). sent_by core cores state.sent ++ frame ∷ (drop 1 l ++ old.coming)) waits
          ∙ ap (λ (l : List Frame). sent_by core cores state.sent ++ (l ++ old.coming)) (sym waits)
          ∙ have core old was
    ]

pub emit_shares : (frames : List Frame) (cores : ℕ) (state : MillState) → HaveShares cores frames state → HaveShares cores frames (happens state Emit)
emit_shares frames cores state have =
    elim (next_in state) as (λ n. next_in state ≡ n → HaveShares cores frames (emitted n state)) [
      | Packet at ↦ λ next. packet_shares frames cores state at next have
      | Need core ↦ λ next. have
      | End ↦ λ next. have
    ] refl

-- in the beginning each core's share is to come
pub start_shares : (frames : List Frame) (cores limit : ℕ) → HaveShares cores frames (start cores limit frames)
start_shares frames cores limit core queue there = starts 0 cores core queue there ∙ ap (λ (n : ℕ). share n cores frames) (omega arith)
  where
    starts : (from count at : ℕ) (queue : Queue)
        → slice_get (map (λ share. record { waiting = []; coming = share }) (map (λ core. share core cores frames) (range_with_len from count))) at ≡ Some queue
        → stem queue ≡ share (from + at) cores frames
    starts from zero at queue there = cc
    starts from (suc count) zero queue there =
        let mine : record { waiting = []; coming = share from cores frames } ≡ queue = cc in
        ap stem (sym mine) ∙ ap (λ (n : ℕ). share n cores frames) (omega arith)
    starts from (suc count) (suc at) queue there =
        starts (from + 1) count at queue there ∙ ap (λ (n : ℕ). share n cores frames) (omega arith)
