-- How many packets the cores have made.
use Rattle.std.proofs.Common.{◌≡◌, ℕ, zero, suc, ◌+◌, ◌-◌, ◌<◌, ◌≤◌, List, [], ◌∷◌, ◌++◌, length, map, take, refl, sym, ap, ◌∙◌, arith, Some, length-append}
use Rattle.std.specs.List.{AllByRecursion, range_with_len, slice_get}
use Rattle.std.proofs.lemmas.List.{length-drop, length-map}
use Rattle.trex_core.specs.Beginnings.{batch_within}
use Rattle.trex_core.specs.Turning.{stem-refilled}
use Rattle.trex_core.specs.Works.{Work, added, turned}
use Rattle.trex_merge.specs.declared.next.Next.{Next}
use Rattle.trex_merge.specs.declared.next.Next.TheVariants.{Packet, Need, End}
use Rattle.trex_merge.specs.Frames.{Frame, key_of}
use Rattle.trex_merge.specs.Machine.{HaveShares, sent_by}
use Rattle.trex_merge.specs.Order.{ordered}
use Rattle.trex_merge.specs.Queues.{Queue, at_place, popped, refilled, stem}
use Rattle.trex_run.specs.Step.{queues_after, mill_after}
use Rattle.trex_run.specs.Ready.{queues_of}
use Rattle.trex_run.specs.Rounds.{HasKeptUp, IsEnoughRounds}

-- ---- the cores of the works

-- works with the same marks have the same cores
pub cores_by_marks : (new old : List Work) → map (λ (w : Work). w.core ∷ w.turns ∷ w.base ∷ []) new ≡ map (λ (w : Work). w.core ∷ w.turns ∷ w.base ∷ []) old
    → map (λ (w : Work). w.core) new ≡ map (λ (w : Work). w.core) old
cores_by_marks [] [] same = refl
cores_by_marks [] (w ∷ old) same = cc
cores_by_marks (v ∷ new) [] same = cc
cores_by_marks (v ∷ new) (w ∷ old) same =
    let here : v.core ≡ w.core = cc in
    let rest : map (λ (w : Work). w.core ∷ w.turns ∷ w.base ∷ []) new ≡ map (λ (w : Work). w.core ∷ w.turns ∷ w.base ∷ []) old = cc in
    let later = cores_by_marks new old rest in
    λ i. here i ∷ later i

-- and a turn leaves them
pub cores_turned : (works : List Work) → map (λ (w : Work). w.core) (map turned works) ≡ map (λ (w : Work). w.core) works
cores_turned [] = refl
cores_turned (w ∷ works) = ap (λ (l : List ℕ). w.core ∷ l) (cores_turned works)

-- works with the same cores are as many
pub as_many : (new old : List Work) → map (λ (w : Work). w.core) new ≡ map (λ (w : Work). w.core) old → length new ≡ length old
as_many new old same = sym (length-map new (λ (w : Work). w.core)) ∙ ap length same ∙ length-map old (λ (w : Work). w.core)

-- the cores of works are known by the number of the works
pub in_order_still : (new old : List Work) → map (λ (w : Work). w.core) new ≡ map (λ (w : Work). w.core) old → map (λ (w : Work). w.core) old ≡ range_with_len 0 (length old)
    → map (λ (w : Work). w.core) new ≡ range_with_len 0 (length new)
in_order_still new old same order = same ∙ order ∙ ap (range_with_len 0) (sym (as_many new old same))

-- ---- what each core has still to make

-- the queue of a core, before a packet was sent
pub record IsOf (queues : List Queue) (core : ℕ) (queue : Queue) : Type 0 where
  pub old : Queue
  pub there : slice_get queues core ≡ Some old
  pub coming_is : queue.coming ≡ old.coming

before_pop : (at core : ℕ) (queues : List Queue) (queue : Queue) → slice_get (at_place popped at queues) core ≡ Some queue → IsOf queues core queue
before_pop at core [] queue there = cc
before_pop zero zero (q ∷ queues) queue there = let same : popped q ≡ queue = cc in record { old = q; there = refl; coming_is = ap (λ (x : Queue). x.coming) (sym same) }
before_pop zero (suc core) (q ∷ queues) queue there = record { old = queue; there = there; coming_is = refl }
before_pop (suc at) zero (q ∷ queues) queue there = record { old = queue; there = there; coming_is = refl }
before_pop (suc at) (suc core) (q ∷ queues) queue there =
    let was = before_pop at core queues queue there in
    record { old = was.old; there = was.there; coming_is = was.coming_is }

-- after the packet that comes next
pub fed_after : (cores : ℕ) (frames : List Frame) (rounds : ℕ) (next : Next) (queues : List Queue) → HasKeptUp cores frames rounds queues → HasKeptUp cores frames rounds (queues_after next queues)
fed_after cores frames rounds (Need other) queues fed core queue there = fed core queue there
fed_after cores frames rounds End queues fed core queue there = fed core queue there
fed_after cores frames rounds (Packet at) queues fed core queue there =
    let was = before_pop at core queues queue there in
    let h = fed core was.old was.there in
    let same = ap length was.coming_is in
    omega arith

-- the queue of a core, before a round
pub record IsFrom (queues : List Queue) (core : ℕ) (queue : Queue) : Type 0 where
  pub old : Queue
  pub there : slice_get queues core ≡ Some old
  pub is : queue ≡ refilled (added old) old

before_round : (core : ℕ) (queues : List Queue) (queue : Queue) → slice_get (map (λ q. refilled (added q) q) queues) core ≡ Some queue → IsFrom queues core queue
before_round core [] queue there = cc
before_round zero (q ∷ queues) queue there = let same : refilled (added q) q ≡ queue = cc in record { old = q; there = refl; is = sym same }
before_round (suc core) (q ∷ queues) queue there =
    let was = before_round core queues queue there in
    record { old = was.old; there = was.there; is = was.is }

-- a round makes at most a batch of packets
pub fed_more : (cores : ℕ) (frames : List Frame) (rounds : ℕ) (queues : List Queue) → HasKeptUp cores frames rounds queues
    → HasKeptUp cores frames (rounds + 1) (map (λ queue. refilled (added queue) queue) queues)
fed_more cores frames rounds queues fed core queue there =
    let was = before_round core queues queue there in
    let h = fed core was.old was.there in
    let small = (batch_within (stem was.old)).packets in
    let left : length queue.coming ≡ length was.old.coming - added was.old = ap (λ (q : Queue). length q.coming) was.is ∙ length-drop (added was.old) was.old.coming in
    omega arith

-- a round leaves each core's share
pub shares_round : (cores : ℕ) (frames : List Frame) (queues : List Queue) (sent limit : ℕ) → HaveShares cores frames (mill_after frames queues sent limit)
    → HaveShares cores frames (mill_after frames (map (λ queue. refilled (added queue) queue) queues) sent limit)
shares_round cores frames queues sent limit have core queue there =
    let was = before_round core queues queue there in
    ap (λ (l : List Frame). sent_by core cores (take sent (ordered key_of frames)) ++ l) (ap stem was.is ∙ stem-refilled (added was.old) was.old)
    ∙ have core was.old was.there

-- before the first round
pub fed_first : (cores : ℕ) (frames : List Frame) (queues : List Queue) (limit : ℕ) → HaveShares cores frames (mill_after frames queues 0 limit)
    → AllByRecursion (λ queue. queue.waiting ≡ []) queues → HasKeptUp cores frames 0 queues
fed_first cores frames queues limit have none core queue there =
    let waits = none_waits queues core queue none there in
    let all = ap length (sym (have core queue there) ∙ ap (λ (l : List Frame). l ++ queue.coming) waits) in
    omega arith
  where
    none_waits : (queues : List Queue) (core : ℕ) (queue : Queue) → AllByRecursion (λ q. q.waiting ≡ []) queues → slice_get queues core ≡ Some queue → queue.waiting ≡ []
    none_waits [] core queue none there = cc
    none_waits (q ∷ queues) zero queue none there = let same : q ≡ queue = cc in ap (λ (x : Queue). x.waiting) (sym same) ∙ none.0
    none_waits (q ∷ queues) (suc core) queue none there = none_waits queues core queue none.1 there

-- ---- at the end

-- each core has a queue
queue_at : (works : List Work) (core : ℕ) → core < length works → (queue : Queue) × (slice_get (queues_of works) core ≡ Some queue)
queue_at [] core within = absurd (omega arith)
queue_at (w ∷ works) zero within = (w.queue, refl)
queue_at (w ∷ works) (suc core) within = queue_at works core (omega arith)

-- where all packets were sent, the rounds sufficed
pub suffices : (frames : List Frame) (works : List Work) (rounds sent limit : ℕ) (all : List Frame) → HaveShares (length works) frames (mill_after frames (queues_of works) sent limit)
    → HasKeptUp (length works) frames rounds (queues_of works) → take sent (ordered key_of frames) ≡ all → rounds ≤ length all → IsEnoughRounds (length works) rounds all
suffices frames works rounds sent limit all have fed whole few = record {
  enough = λ core within.
      let queue = queue_at works core within in
      let made = fed core queue.0 queue.1 in
      let share_is = ap length (have core queue.0 queue.1) in
      let parts = length-append (sent_by core (length works) (take sent (ordered key_of frames))) (stem queue.0) in
      let both = length-append queue.0.waiting queue.0.coming in
      let same : length (sent_by core (length works) (take sent (ordered key_of frames))) ≡ length (sent_by core (length works) all) = ap (λ l. length (sent_by core (length works) l)) whole in
      omega arith;
  few = few;
}
