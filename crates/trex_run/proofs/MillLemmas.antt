-- The events of a mill, over what is left at the cores and how many packets were sent.
use Rattle.std.proofs.Common.{◌≡◌, ℕ, zero, suc, ◌+◌, ◌-◌, ◌≤◌, true, false, List, [], ◌∷◌, ◌++◌, length, map, take, refl, sym, ap, ◌∙◌, subst, arith, length-append, Some, inl, inr, add-zero}
use Rattle.std.proofs.lemmas.List.{length-take-le}
use Rattle.std.proofs.Math.Seq.{take-append_seam}
use Rattle.std.specs.List.{AllByRecursion, slice_get}
use Rattle.trex_merge.specs.declared.next.Next.{Next}
use Rattle.trex_merge.specs.declared.next.Next.TheVariants.{Packet, Need, End}
use Rattle.trex_merge.specs.Frames.{Frame, key_of}
use Rattle.trex_merge.specs.Machine.{Emit, IsMill, MillState, emitted, happens, next_in, run}
use Rattle.trex_merge.specs.Order.{ordered, joined}
use Rattle.trex_merge.specs.Queues.{Queue, at_place, is_needy, next_of, popped, refilled, stem, waiting_at}
use Rattle.trex_merge.proofs.QueueLemmas.{all_is_end, end_is_all, need_is_first, packet_is_least}
use Rattle.trex_merge.proofs.EventLemmas.{emit_keeps, first_waits}
use Rattle.trex_run.specs.Step.{is_packet, queues_after, round_from, mill_after, packet_ahead}

-- ---- what comes next

-- where a packet comes next, it is one
pub one_ahead : (next : Next) → is_packet next ≡ true → packet_ahead next ≡ 1
one_ahead (Packet at) is = refl
one_ahead (Need core) is = cc
one_ahead End is = cc

pub none_ahead : (next : Next) → is_packet next ≡ false → packet_ahead next ≡ 0
none_ahead (Packet at) is = cc
none_ahead (Need core) is = refl
none_ahead End is = refl

-- ---- a packet is sent

-- what comes next, by the number of packets that were sent
pub next_is : (frames : List Frame) (queues : List Queue) (sent limit : ℕ) → sent ≤ length (ordered key_of frames)
    → next_in (mill_after frames queues sent limit) ≡ next_of (limit - sent) queues
next_is frames queues sent limit within = ap (λ n. next_of (limit - n) queues) (length-take-le sent (ordered key_of frames) within)

-- one packet more was sent: it is the next of all
one_more : (all sent new rest : List Frame) (count : ℕ) → length sent ≡ count → length new ≡ 1 → (sent ++ new) ++ rest ≡ all
    → (sent ++ new ≡ take (count + 1) all) × (count + 1 ≤ length all)
one_more all sent new rest count long one whole =
    let both : length (sent ++ new) ≡ count + 1 = length-append sent new ∙ omega (arith, long, one) in
    let total : length ((sent ++ new) ++ rest) ≡ length (sent ++ new) + length rest = length-append (sent ++ new) rest in
    let same : length ((sent ++ new) ++ rest) ≡ length all = ap length whole in (
      sym (ap (λ n. take n all) (sym both) ∙ ap (take (length (sent ++ new))) (sym whole) ∙ take-append_seam (sent ++ new) rest),
      omega (arith, both, total, same),
    )

-- the state after the packet that comes next
pub emit_is : (frames : List Frame) (queues : List Queue) (sent limit : ℕ) (next : Next) → IsMill frames (mill_after frames queues sent limit)
    → sent ≤ length (ordered key_of frames) → next ≡ next_of (limit - sent) queues
    → (happens (mill_after frames queues sent limit) Emit ≡ mill_after frames (queues_after next queues) (sent + packet_ahead next) limit)
    × (sent + packet_ahead next ≤ length (ordered key_of frames))
emit_is frames queues sent limit (Need core) mill within is =
    rw add-zero (ap (λ n. emitted n (mill_after frames queues sent limit)) (next_is frames queues sent limit within ∙ sym is), within)
emit_is frames queues sent limit End mill within is =
    rw add-zero (ap (λ n. emitted n (mill_after frames queues sent limit)) (next_is frames queues sent limit within ∙ sym is), within)
emit_is frames queues sent limit (Packet at) mill within is =
    let state : MillState = mill_after frames queues sent limit in
    let e : happens state Emit ≡ emitted (Packet at) state = ap (λ n. emitted n state) (next_is frames queues sent limit within ∙ sym is) in
    let after : IsMill frames (emitted (Packet at) state) = subst (IsMill frames) e (emit_keeps frames state mill) in
    let chosen = packet_is_least (limit - sent) at queues (sym is) in
    let first = first_waits at queues chosen.frame chosen.rest chosen.there in
    let more = one_more (ordered key_of frames) (take sent (ordered key_of frames)) (take 1 (waiting_at at queues))
    (ordered key_of (joined (map stem (at_place popped at queues)))) sent (length-take-le sent (ordered key_of frames) within) (ap length first.sent) after.whole in (
      e ∙ ap (λ (list : List Frame). record { queues = at_place popped at queues; sent = list; limit = limit }) more.0,
      more.1,
    )

-- ---- a round is made

-- the queue at the place behind some others is changed
at_place_behind : (change : Queue → Queue) (front queues : List Queue) (queue : Queue)
    → at_place change (length front) (front ++ queue ∷ queues) ≡ (front ++ change queue ∷ []) ++ queues
at_place_behind change [] queues queue = refl
at_place_behind change (q ∷ front) queues queue = ap (λ (l : List Queue). q ∷ l) (at_place_behind change front queues queue)

-- the queues from a place on, after their refills
behind : (front queues : List Queue) (queue : Queue) → (front ++ queue ∷ []) ++ queues ≡ front ++ queue ∷ queues
behind [] queues queue = refl
behind (q ∷ front) queues queue = ap (λ (l : List Queue). q ∷ l) (behind front queues queue)

round_behind : (added : Queue → ℕ) (front queues : List Queue) (sent : List Frame) (limit : ℕ)
    → run (round_from added (length front) queues) (record { queues = front ++ queues; sent = sent; limit = limit })
    ≡ record { queues = front ++ map (λ queue. refilled (added queue) queue) queues; sent = sent; limit = limit }
round_behind added front [] sent limit = refl
round_behind added front (queue ∷ queues) sent limit =
    let new : Queue = refilled (added queue) queue in
    let one : length (front ++ new ∷ []) ≡ length front + 1 = length-append front (new ∷ []) in
    ap (λ (l : List Queue). run (round_from added (length front + 1) queues) (record { queues = l; sent = sent; limit = limit }))
    (at_place_behind (refilled (added queue)) front queues queue)
    ∙ ap (λ n. run (round_from added n queues) (record { queues = (front ++ new ∷ []) ++ queues; sent = sent; limit = limit })) (sym one)
    ∙ round_behind added (front ++ new ∷ []) queues sent limit
    ∙ ap (λ (l : List Queue). record { queues = l; sent = sent; limit = limit }) (behind front (map (λ q. refilled (added q) q) queues) new)

-- the state after a round
pub round_is : (added : Queue → ℕ) (frames : List Frame) (queues : List Queue) (sent limit : ℕ)
    → run (round_from added 0 queues) (mill_after frames queues sent limit) ≡ mill_after frames (map (λ queue. refilled (added queue) queue) queues) sent limit
round_is added frames queues sent limit = round_behind added [] queues (take sent (ordered key_of frames)) limit

-- ---- after a round that was needed a packet waits

-- cores that have as much left
sent_by : (after queues : List Queue) → map stem after ≡ map stem queues → AllByRecursion (λ queue. stem queue ≡ []) after
    → AllByRecursion (λ queue. stem queue ≡ []) queues
sent_by [] [] same all = tt
sent_by [] (queue ∷ queues) same all = cc
sent_by (a ∷ after) [] same all = tt
sent_by (a ∷ after) (queue ∷ queues) same all =
    let here : stem a ≡ stem queue = cc in
    let rest : map stem after ≡ map stem queues = cc in
    (sym here ∙ all.0, sent_by after queues rest all.1)

-- none of the queues is one that has to be waited for
none_needy : (queues : List Queue) (core : ℕ) (queue : Queue) → AllByRecursion (λ q. is_needy q ≡ false) queues
    → slice_get queues core ≡ Some queue → is_needy queue ≡ false
none_needy [] core queue all there = cc
none_needy (q ∷ queues) zero queue all there = let same : q ≡ queue = cc in subst (λ (x : Queue). is_needy x ≡ false) same all.0
none_needy (q ∷ queues) (suc core) queue all there = none_needy queues core queue all.1 there

pub goes_on : (more core : ℕ) (queues after : List Queue) → next_of more queues ≡ Need core → map stem after ≡ map stem queues
    → AllByRecursion (λ queue. is_needy queue ≡ false) after → is_packet (next_of more after) ≡ true
goes_on more core queues after needs same served =
    elim (next_of more after) as (λ n. next_of more after ≡ n → is_packet n ≡ true) [
      | Packet at ↦ λ e. refl
      | Need other ↦ λ e.
          let first = need_is_first more other after e in
          let calm = none_needy after other first.queue served first.there in
          let needy = first.needy in
          cc
      | End ↦ λ e. elim (end_is_all more after e) [
        | inl none ↦ let ended = all_is_end more queues (inl none) in cc
        | inr all ↦ let ended = all_is_end more queues (inr (sent_by after queues same all)) in cc
      ]
    ] refl
