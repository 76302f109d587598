-- Each event keeps the mill one, and what a mill sent is the beginning of the sequence.
use Rattle.std.proofs.Common.{◌≡◌, ℕ, zero, suc, ◌+◌, ◌-◌, ◌<◌, ◌≤◌, inl, inr, ◌&&◌, not, false, Some, List, [], ◌∷◌, ◌++◌, append_assoc, length, map, take, drop, set, refl, sym, ap, ◌∙◌, subst, arith}
use Rattle.std.proofs.lemmas.List.{append-nil, take-append-drop, take-append-le, length-append}
use Rattle.std.proofs.Math.Seq.{take-append-add}
use Rattle.std.specs.List.{AllByRecursion, slice_get}
use Rattle.trex_merge.specs.declared.next.Next.{Next}
use Rattle.trex_merge.specs.declared.next.Next.TheVariants.{End, Need, Packet}
use Rattle.trex_merge.specs.Frames.{Frame, key_of, sequence, share, shares}
use Rattle.trex_merge.specs.Machine.{Emit, Event, IsEnded, IsMill, IsPrefixOf, MillState, Refill, emitted, happens, next_in, run, start}
use Rattle.trex_merge.specs.Order.{AreApart, AreDistinct, BeginsNotBefore, IsRising, joined, ordered}
use Rattle.trex_merge.specs.Queues.{Queue, all_waiting, at_place, is_none_left, popped, refilled, stem, waiting_at}
use Rattle.trex_merge.proofs.QueueLemmas.{AllServed, more_left, packet_is_least}
use Rattle.trex_merge.proofs.ListLemmas.{joined_none, ordered_least, pairs-joined, rising-set}
use Rattle.trex_merge.proofs.Parts.{shares_distinct, shares_merged, shares_rise}

-- ---- packets are made

-- what was made goes from those to come to those that wait
pub stem-refilled : (most : ℕ) (queue : Queue) → stem (refilled most queue) ≡ stem queue
stem-refilled most queue = append_assoc queue.waiting (take most queue.coming) (drop most queue.coming) ∙ ap (λ (l : List Frame). queue.waiting ++ l) (take-append-drop most queue.coming)

pub stems-refilled : (most core : ℕ) (queues : List Queue) → map stem (at_place (refilled most) core queues) ≡ map stem queues
stems-refilled most core [] = refl
stems-refilled most zero (queue ∷ queues) = ap (λ (l : List Frame). l ∷ map stem queues) (stem-refilled most queue)
stems-refilled most (suc core) (queue ∷ queues) = ap (λ (l : List (List Frame)). stem queue ∷ l) (stems-refilled most core queues)

-- a mill is one by what is left at its cores
abbrev IsMillOf : List Frame → List Frame → ℕ → List (List Frame) → Type 0
IsMillOf frames sent limit stems =
    ((sent ++ ordered key_of (joined stems) ≡ ordered key_of frames) × AreDistinct key_of (joined stems)) × (AllByRecursion (IsRising key_of) stems × (length sent ≤ limit))

mill_of : (frames : List Frame) (state : MillState) → IsMillOf frames state.sent state.limit (map stem state.queues) → IsMill frames state
mill_of frames state is = record { whole = is.0.0; distinct = is.0.1; rising = is.1.0; within = is.1.1 }

pub refill_keeps : (frames : List Frame) (state : MillState) (core most : ℕ) → IsMill frames state → IsMill frames (happens state (Refill core most))
refill_keeps frames state core most mill =
    mill_of frames (happens state (Refill core most))
    (subst (IsMillOf frames state.sent state.limit) (sym (stems-refilled most core state.queues)) ((mill.whole, mill.distinct), (mill.rising, mill.within)))

-- ---- a packet is sent

-- A packet is the first that a core has, and what is left there after it.
pub record IsFirstAt (at : ℕ) (queues : List Queue) (frame : Frame) : Type 0 where
  pub later : List Frame
  pub there : slice_get (map stem queues) at ≡ Some (frame ∷ later)
  pub left : map stem (at_place popped at queues) ≡ set (map stem queues) at later
  pub sent : take 1 (waiting_at at queues) ≡ frame ∷ []

-- what waits first at a core is the first that the core has
pub first_waits : (at : ℕ) (queues : List Queue) (frame : Frame) (rest : List Frame) → slice_get (all_waiting queues) at ≡ Some (frame ∷ rest) → IsFirstAt at queues frame
first_waits at [] frame rest there = cc
first_waits zero (queue ∷ queues) frame rest there =
    let waits : queue.waiting ≡ frame ∷ rest = cc in
    record {
      later = rest ++ queue.coming;
      there = ap (λ (l : List Frame). Some ((l ++ queue.coming))) waits;
      left = ap (λ (l : List Frame). (drop 1 l ++ queue.coming) ∷ map stem queues) waits;
      sent = ap (take 1) waits;
    }
first_waits (suc at) (queue ∷ queues) frame rest there =
    let later = first_waits at queues frame rest there in
    record { later = later.later; there = later.there; left = ap (λ (l : List (List Frame)). stem queue ∷ l) later.left; sent = later.sent }

-- Where no core has to be waited for, what a core has begins with what waits there, or nothing is left there.
pub stems_not_before : (frame : Frame) (queues : List Queue) → AllServed queues → AllByRecursion (BeginsNotBefore key_of frame) (all_waiting queues)
    → AllByRecursion (BeginsNotBefore key_of frame) (map stem queues)
stems_not_before frame [] served least = tt
stems_not_before frame (queue ∷ queues) served least = (one queue.waiting queue.coming served.0 least.0, stems_not_before frame queues served.1 least.1)
  where
    one : (waiting coming : List Frame) → (is_none_left waiting && not (is_none_left coming)) ≡ false → BeginsNotBefore key_of frame waiting
        → BeginsNotBefore key_of frame (waiting ++ coming)
    one [] [] served least = tt
    one [] (x ∷ coming) served least = cc
    one (x ∷ waiting) coming served least = least

packet_sent : (frames : List Frame) (state : MillState) (at : ℕ) → next_in state ≡ Packet at → IsMill frames state → IsMill frames (emitted (Packet at) state)
packet_sent frames state at next mill =
    let queues = state.queues in
    let stems = map stem queues in
    let chosen = packet_is_least (state.limit - length state.sent) at queues next in
    let frame = chosen.frame in
    let first = first_waits at queues frame chosen.rest chosen.there in
    let passed = set stems at first.later in
    let begins = stems_not_before frame queues chosen.served chosen.least in
    let leads : ordered key_of (joined stems) ≡ frame ∷ ordered key_of (joined passed) =
    ordered_least key_of stems at frame first.later first.there mill.rising mill.distinct begins in
    let more : 0 < state.limit - length state.sent = more_left (state.limit - length state.sent) at queues next in
    let sent : state.sent ++ take 1 (waiting_at at queues) ≡ state.sent ++ frame ∷ [] = ap (λ (l : List Frame). state.sent ++ l) first.sent in
    let longer : length (state.sent ++ take 1 (waiting_at at queues)) ≡ length state.sent + 1 = ap length sent ∙ length-append state.sent (frame ∷ []) in
    let whole : (state.sent ++ take 1 (waiting_at at queues)) ++ ordered key_of (joined passed) ≡ ordered key_of frames =
    ap (λ (l : List Frame). l ++ ordered key_of (joined passed)) sent
    ∙ append_assoc state.sent (frame ∷ []) (ordered key_of (joined passed))
    ∙ ap (λ (l : List Frame). state.sent ++ l) (sym leads)
    ∙ mill.whole in
    mill_of frames (emitted (Packet at) state)
    (subst (IsMillOf frames (state.sent ++ take 1 (waiting_at at queues)) state.limit) (sym first.left) (
      (whole, pairs-joined (AreApart key_of) stems at frame first.later first.there mill.distinct),
      (rising-set key_of stems at frame first.later first.there mill.rising, omega arith),
    ))

pub emit_keeps : (frames : List Frame) (state : MillState) → IsMill frames state → IsMill frames (happens state Emit)
emit_keeps frames state mill =
    elim (next_in state) as (λ n. next_in state ≡ n → IsMill frames (emitted n state)) [
      | Packet at ↦ λ next. packet_sent frames state at next mill
      | Need core ↦ λ next. mill
      | End ↦ λ next. mill
    ] refl

-- ---- runs

pub run_keeps : (frames : List Frame) (state : MillState) (events : List Event) → IsMill frames state → IsMill frames (run events state)
run_keeps frames state [] mill = mill
run_keeps frames state (Refill core most ∷ events) mill = run_keeps frames (happens state (Refill core most)) events (refill_keeps frames state core most mill)
run_keeps frames state (Emit ∷ events) mill = run_keeps frames (happens state Emit) events (emit_keeps frames state mill)

-- in the beginning each core has its share
stems_coming : (lists : List (List Frame)) → lists ≡ map stem (map (λ share. record { waiting = []; coming = share }) lists)
stems_coming [] = refl
stems_coming (share ∷ lists) = ap (λ (l : List (List Frame)). share ∷ l) (stems_coming lists)

pub start_is : (frames : List Frame) (cores limit : ℕ) → AreDistinct key_of frames → 0 < cores → IsMill frames (start cores limit frames)
start_is frames cores limit distinct some =
    mill_of frames (start cores limit frames)
    (subst (IsMillOf frames [] limit) (stems_coming (shares cores frames)) (
      (shares_merged frames cores distinct some, shares_distinct frames cores distinct),
      (shares_rise frames cores distinct, omega arith),
    ))

-- keeps its limit
pub run_limit : (events : List Event) (state : MillState) → (run events state).limit ≡ state.limit
run_limit [] state = refl
run_limit (Refill core most ∷ events) state = run_limit events (happens state (Refill core most))
run_limit (Emit ∷ events) state = run_limit events (happens state Emit) ∙ same (next_in state)
  where
    same : (next : Next) → (emitted next state).limit ≡ state.limit
    same (Packet at) = refl
    same (Need core) = refl
    same End = refl

-- ---- what was sent

pub sent_prefix : (frames : List Frame) (state : MillState) → IsMill frames state → IsPrefixOf state.sent (sequence state.limit frames)
sent_prefix frames state mill =
    let rest = ordered key_of (joined (map stem state.queues)) in
    let more = state.limit - length state.sent in
    let within = mill.within in
    let all : length state.sent + more ≡ state.limit = omega (arith, within) in (
      take more rest,
      sym (take-append-add state.sent rest more)
          ∙ ap (λ (n : ℕ). take n (state.sent ++ rest)) all
          ∙ ap (take state.limit) mill.whole,
    )

-- a list that is no longer than the limit is its beginning
take_all : (limit : ℕ) (xs : List Frame) → length xs ≤ limit → take limit xs ≡ xs
take_all zero [] few = refl
take_all zero (x ∷ xs) few = absurd (omega arith)
take_all (suc limit) [] few = refl
take_all (suc limit) (x ∷ xs) few = ap (λ (l : List Frame). x ∷ l) (take_all limit xs (omega arith))

pub sent_whole : (frames : List Frame) (state : MillState) → IsMill frames state → IsEnded state → state.sent ≡ sequence state.limit frames
sent_whole frames state mill (inl full) =
    let within = mill.within in
    let rest = ordered key_of (joined (map stem state.queues)) in
    sym (take_all state.limit state.sent within)
    ∙ sym (take-append-le state.limit state.sent rest full)
    ∙ ap (take state.limit) mill.whole
sent_whole frames state mill (inr empty) =
    let none : ordered key_of (joined (map stem state.queues)) ≡ [] = ap (ordered key_of) (joined_none (map stem state.queues) (stems_empty state.queues empty)) in
    sym (take_all state.limit state.sent mill.within)
    ∙ ap (take state.limit) (sym (append-nil state.sent) ∙ ap (λ (l : List Frame). state.sent ++ l) (sym none) ∙ mill.whole)
  where
    stems_empty : (queues : List Queue) → AllByRecursion (λ queue. stem queue ≡ []) queues → AllByRecursion (λ xs. xs ≡ []) (map stem queues)
    stems_empty [] empty = tt
    stems_empty (queue ∷ queues) empty = (empty.0, stems_empty queues empty.1)

-- what comes after a beginning stands at the beginning's length
at_length : (xs rest : List Frame) (x : Frame) → slice_get ((xs ++ x ∷ []) ++ rest) (length xs) ≡ Some x
at_length [] rest x = refl
at_length (y ∷ xs) rest x = at_length xs rest x

-- the packet that comes next is that of the sequence which follows what was sent
pub next_in_sequence : (frames : List Frame) (state : MillState) (at : ℕ) → IsMill frames state → next_in state ≡ Packet at
    → slice_get (waiting_at at state.queues) 0 ≡ slice_get (sequence state.limit frames) (length state.sent)
next_in_sequence frames state at mill next =
    let queues = state.queues in
    let chosen = packet_is_least (state.limit - length state.sent) at queues next in
    let first = first_waits at queues chosen.frame chosen.rest chosen.there in
    let after = sent_prefix frames (emitted (Packet at) state) (packet_sent frames state at next mill) in
    waits_first (waiting_at at queues) chosen.frame first.sent
    ∙ sym (at_length state.sent after.0 chosen.frame)
    ∙ ap (λ (l : List Frame). slice_get ((state.sent ++ l) ++ after.0) (length state.sent)) (sym first.sent)
    ∙ ap (λ (l : List Frame). slice_get l (length state.sent)) after.1
  where
    waits_first : (waiting : List Frame) (frame : Frame) → take 1 waiting ≡ frame ∷ [] → slice_get waiting 0 ≡ Some frame
    waits_first [] frame first = cc
    waits_first (x ∷ waiting) frame first = let same : x ≡ frame = cc in ap (λ (f : Frame). Some f) same
