-- A run: the packets at the front of a queue that stand before all others are sent one after another.
use Rattle.std.proofs.Common.{◌≡◌, ◌≢◌, ℕ, zero, suc, ◌+◌, ◌-◌, ◌<◌, ◌≤◌, inl, inr, ◌&&◌, not, Bool, true, false, cond, IsTrue, Option, None, Some, List, [], ◌∷◌, ◌++◌, append_assoc, append-nil, length, length-append, map, take, drop, replicate, set, refl, sym, ap, ◌∙◌, subst, arith}
use Rattle.std.proofs.lemmas.Bool.{false≢true}
use Rattle.std.specs.List.{AllByRecursion, slice_get}
use Rattle.trex_merge.specs.declared.next.Next.TheVariants.{Packet}
use Rattle.trex_merge.specs.declared.key.Key.{Key}
use Rattle.trex_merge.specs.declared.place.Place.{Place}
use Rattle.trex_merge.specs.Frames.{Frame, key_of}
use Rattle.trex_merge.specs.Heads.{earlier_of, head_at, least_from}
use Rattle.trex_merge.specs.Machine.{Emit, IsMill, MillState, emitted, happens, next_in, run}
use Rattle.trex_merge.specs.Order.{AreApart, BeginsNotBefore, ComesBefore, Has, is_before, joined}
use Rattle.trex_merge.specs.Queues.{Queue, all_waiting, at_place, is_needy, is_none_left, needy_from, next_among, next_of, popped, stem, waiting_at}
use Rattle.trex_merge.specs.Runs.{IsLeastElsewhere, OthersNotBefore, StandsNotBefore, dropped, passed, run_length, stands_before}
use Rattle.trex_merge.proofs.KeyLemmas.{before_between, not_both}
use Rattle.trex_merge.proofs.Least.{least_is}
use Rattle.trex_merge.proofs.ListLemmas.{before_others, has-append, pairs_with_first}
use Rattle.trex_merge.proofs.OrderLemmas.{all_at}
use Rattle.trex_merge.proofs.QueueLemmas.{AllServed, more_left, packet_is_least}
use Rattle.trex_merge.proofs.EventLemmas.{first_waits, stems_not_before}

-- ---- what comes next, from what waits

-- a key comes before the first packets that wait at all cores but one
abbrev pub BeforeOthers : ℕ → Key → List (List Frame) → Type 0
BeforeOthers at key lists = (core : ℕ) (frame : Frame) (rest : List Frame) → ¬ (core ≡ at) → slice_get lists core ≡ Some (frame ∷ rest) → IsTrue (is_before key (key_of frame))

-- what stands before a key before which no other first packet stands, stands before all others
stands_first : (at : ℕ) (key : Key) (before : Option Key) (queues : List Queue) → IsTrue (stands_before key before) → OthersNotBefore at before queues
    → BeforeOthers at key (all_waiting queues)
stands_first at key None queues stands others core frame rest other there = absurd (others core frame rest other there)
stands_first at key (Some bound) queues stands others core frame rest other there =
    elim (before_between bound (key_of frame) key stands) [ inl first ↦ first | inr before ↦ absurd (others core frame rest other there before) ]

is_false : (t : Bool) → ¬ IsTrue t → t ≡ false
is_false true not_so = absurd (not_so refl)
is_false false not_so = refl

same_place : (key : Key) (one other : ℕ) → one ≡ other → (let a : Place = record { key = key; feed = one } in let b : Place = record { key = key; feed = other } in Some a ≡ Some b)
same_place key one other same = ap (λ (n : ℕ). let place : Place = record { key = key; feed = n } in Some place) same

-- the least is there
least_there : (from at : ℕ) (lists : List (List Frame)) (x : Frame) (rest : List Frame) → slice_get lists at ≡ Some (x ∷ rest) → BeforeOthers at (key_of x) lists
    → least_from key_of from lists ≡ Some (record { key = key_of x; feed = from + at })
least_there from at [] x rest there first = cc
least_there from zero (xs ∷ lists) x rest there first =
    let same : xs ≡ x ∷ rest = cc in
    let mine : Place = record { key = key_of x; feed = from } in
    ap (λ (l : List Frame). earlier_of (head_at key_of from l) (least_from key_of (from + 1) lists)) same
    ∙ stays (least_from key_of (from + 1) lists) refl
    ∙ same_place (key_of x) from (from + zero) (omega arith)
  where
    stays : (other : Option Place) → least_from key_of (from + 1) lists ≡ other → earlier_of (Some (record { key = key_of x; feed = from })) other ≡ Some (record { key = key_of x; feed = from })
    stays None is = refl
    stays (Some other) is =
        let later = least_is key_of (from + 1) lists other is in
        let before : IsTrue (is_before (key_of x) (key_of later.x)) = first (suc later.at) later.x later.rest (λ e. cc) later.there in
        let no : is_before other.key (key_of x) ≡ false = is_false (is_before other.key (key_of x))
        (λ yes. not_both (key_of x) (key_of later.x) before (subst (λ (k : Key). IsTrue (is_before k (key_of x))) later.is yes)) in
        rw no refl
least_there from (suc at) (xs ∷ lists) x rest there first =
    let place : Place = record { key = key_of x; feed = (from + 1) + at } in
    let later = least_there (from + 1) at lists x rest there (λ core frame after other is. first (suc core) frame after (λ e. other (omega arith)) is) in
    ap (earlier_of (head_at key_of from xs)) later
    ∙ passes xs refl
    ∙ same_place (key_of x) ((from + 1) + at) (from + suc at) (omega arith)
  where
    passes : (ys : List Frame) → xs ≡ ys → earlier_of (head_at key_of from ys) (Some (record { key = key_of x; feed = (from + 1) + at })) ≡ Some (record { key = key_of x; feed = (from + 1) + at })
    passes [] is = refl
    passes (y ∷ ys) is =
        let before : is_before (key_of x) (key_of y) ≡ true = first zero y ys (λ e. cc) (ap Some is) in
        rw before refl

-- no core is one that has to be waited for
none_needy : (from : ℕ) (queues : List Queue) → AllServed queues → needy_from from queues ≡ None
none_needy from [] served = refl
none_needy from (queue ∷ queues) served = ap (λ t. cond t (Some from) (needy_from (from + 1) queues)) served.0 ∙ none_needy (from + 1) queues served.1

packet_next : (more at : ℕ) (queues : List Queue) (x : Frame) (rest : List Frame) → 0 < more → AllServed queues → slice_get (all_waiting queues) at ≡ Some (x ∷ rest)
    → BeforeOthers at (key_of x) (all_waiting queues) → next_of more queues ≡ Packet at
packet_next zero at queues x rest some served there first = absurd (omega arith)
packet_next (suc more) at queues x rest some served there first =
    ap (λ o. next_among o (least_from key_of 0 (all_waiting queues))) (none_needy 0 queues served)
    ∙ ap (next_among None) (least_there 0 at (all_waiting queues) x rest there first)
    ∙ ap Packet (let same : 0 + at ≡ at = omega arith in same)

-- ---- a packet of a run is sent

-- what waits at a core
waiting_is : (queues : List Queue) (at : ℕ) (waiting : List Frame) → slice_get (all_waiting queues) at ≡ Some waiting → waiting_at at queues ≡ waiting
waiting_is [] at waiting there = cc
waiting_is (queue ∷ queues) zero waiting there = cc
waiting_is (queue ∷ queues) (suc at) waiting there = waiting_is queues at waiting there

-- at the core itself one packet less waits, and at all others the same
popped_there : (queues : List Queue) (at : ℕ) (x : Frame) (rest : List Frame) → slice_get (all_waiting queues) at ≡ Some (x ∷ rest)
    → slice_get (all_waiting (at_place popped at queues)) at ≡ Some rest
popped_there [] at x rest there = cc
popped_there (queue ∷ queues) zero x rest there = let same : queue.waiting ≡ x ∷ rest = cc in ap (λ (l : List Frame). Some (drop 1 l)) same
popped_there (queue ∷ queues) (suc at) x rest there = popped_there queues at x rest there

changed_elsewhere : (change : Queue → Queue) (queues : List Queue) (at core : ℕ) → ¬ (core ≡ at)
    → slice_get (all_waiting (at_place change at queues)) core ≡ slice_get (all_waiting queues) core
changed_elsewhere change [] at core other = refl
changed_elsewhere change (queue ∷ queues) zero zero other = absurd (other refl)
changed_elsewhere change (queue ∷ queues) zero (suc core) other = refl
changed_elsewhere change (queue ∷ queues) (suc at) zero other = refl
changed_elsewhere change (queue ∷ queues) (suc at) (suc core) other = changed_elsewhere change queues at core (λ e. other (ap suc e))

others_still : (change : Queue → Queue) (queues : List Queue) (at : ℕ) (before : Option Key) → OthersNotBefore at before queues → OthersNotBefore at before (at_place change at queues)
others_still change queues at before others core frame rest other there = others core frame rest other (sym (changed_elsewhere change queues at core other) ∙ there)

still_served : (queues : List Queue) (at : ℕ) (x y : Frame) (rest : List Frame) → slice_get (all_waiting queues) at ≡ Some (x ∷ y ∷ rest) → AllServed queues
    → AllServed (at_place popped at queues)
still_served [] at x y rest there served = tt
still_served (queue ∷ queues) zero x y rest there served =
    let same : queue.waiting ≡ x ∷ y ∷ rest = cc in
    (ap (λ (l : List Frame). is_none_left (drop 1 l) && not (is_none_left queue.coming)) same, served.1)
still_served (queue ∷ queues) (suc at) x y rest there served = (served.0, still_served queues at x y rest there served.1)

-- of a run of more than one packet the first two, and the run that is left
record HasTwo (before : Option Key) (more : ℕ) (waiting : List Frame) : Type 0 where
  x : Frame
  y : Frame
  rest : List Frame
  is : waiting ≡ x ∷ y ∷ rest
  stands : IsTrue (stands_before (key_of y) before)
  more_left : 0 < more - 1

-- a run of a packet at least begins with one that stands before the key
record HasOne (before : Option Key) (more : ℕ) (waiting : List Frame) : Type 0 where
  x : Frame
  rest : List Frame
  is : waiting ≡ x ∷ rest
  stands : IsTrue (stands_before (key_of x) before)
  left : run_length before more waiting ≡ suc (run_length before (more - 1) rest)
  some : 0 < more

has_one : (before : Option Key) (more : ℕ) (waiting : List Frame) → 0 < run_length before more waiting → HasOne before more waiting
has_one before more [] some = absurd (omega arith)
has_one before zero (x ∷ rest) some = absurd (omega arith)
has_one before (suc more) (x ∷ rest) some =
    elim (stands_before (key_of x) before) as (λ t. stands_before (key_of x) before ≡ t → 0 < cond t (suc (run_length before more rest)) 0 → HasOne before (suc more) (x ∷ rest)) [
      | true ↦ λ stands e.
          let one : suc more - 1 ≡ more = omega arith in
          record {
            x = x;
            rest = rest;
            is = refl;
            stands = stands;
            left = ap (λ t. cond t (suc (run_length before more rest)) 0) stands ∙ ap (λ n. suc (run_length before n rest)) (sym one);
            some = omega arith;
          }
      | false ↦ λ no e. absurd (omega arith)
    ] refl some

has_two : (before : Option Key) (more : ℕ) (waiting : List Frame) → 1 < run_length before more waiting → HasTwo before more waiting
has_two before more waiting two =
    let one = has_one before more waiting (omega arith) in
    let left = one.left in
    let next = has_one before (more - 1) one.rest (omega arith) in
    record { x = one.x; y = next.x; rest = next.rest; is = one.is ∙ ap (λ (l : List Frame). one.x ∷ l) next.is; stands = next.stands; more_left = next.some }

-- the run that is left
one_less : (before : Option Key) (more : ℕ) (waiting : List Frame) → 0 < run_length before more waiting
    → run_length before more waiting ≡ suc (run_length before (more - 1) (drop 1 waiting))
one_less before more waiting some =
    let one = has_one before more waiting some in
    one.left ∙ ap (λ (l : List Frame). suc (run_length before (more - 1) (drop 1 l))) (sym one.is)

-- where a run has more than one packet, the same core's comes next again
pub run_goes_on : (more at : ℕ) (before : Option Key) (queues : List Queue) → next_of more queues ≡ Packet at → OthersNotBefore at before queues
    → 1 < run_length before more (waiting_at at queues) → next_of (more - 1) (at_place popped at queues) ≡ Packet at
run_goes_on more at before queues next others two =
    let chosen = packet_is_least more at queues next in
    let first = has_two before more (waiting_at at queues) two in
    let here = waiting_is queues at (chosen.frame ∷ chosen.rest) chosen.there in
    let both : chosen.frame ∷ chosen.rest ≡ first.x ∷ first.y ∷ first.rest = sym here ∙ first.is in
    let there : slice_get (all_waiting queues) at ≡ Some (first.x ∷ first.y ∷ first.rest) = chosen.there ∙ ap Some both in
    let queues' = at_place popped at queues in
    packet_next (more - 1) at queues' first.y first.rest first.more_left (still_served queues at first.x first.y first.rest there chosen.served)
    (popped_there queues at first.x (first.y ∷ first.rest) there)
    (stands_first at (key_of first.y) before queues' first.stands (others_still popped queues at before others))

-- ---- a run is sent

at_place_none : (queues : List Queue) (at : ℕ) → at_place (dropped 0) at queues ≡ queues
at_place_none [] at = refl
at_place_none (queue ∷ queues) zero = refl
at_place_none (queue ∷ queues) (suc at) = ap (λ (l : List Queue). queue ∷ l) (at_place_none queues at)

drop_after_one : (m : ℕ) (xs : List Frame) → drop m (drop 1 xs) ≡ drop (suc m) xs
drop_after_one zero [] = refl
drop_after_one (suc m) [] = refl
drop_after_one m (x ∷ xs) = refl

at_place_more : (m : ℕ) (queues : List Queue) (at : ℕ) → at_place (dropped m) at (at_place popped at queues) ≡ at_place (dropped (suc m)) at queues
at_place_more m [] at = refl
at_place_more m (queue ∷ queues) zero = ap (λ (l : List Frame). let q : Queue = record { waiting = l; coming = queue.coming } in q ∷ queues) (drop_after_one m queue.waiting)
at_place_more m (queue ∷ queues) (suc at) = ap (λ (l : List Queue). queue ∷ l) (at_place_more m queues at)

waiting_popped : (queues : List Queue) (at : ℕ) → waiting_at at (at_place popped at queues) ≡ drop 1 (waiting_at at queues)
waiting_popped [] at = refl
waiting_popped (queue ∷ queues) zero = refl
waiting_popped (queue ∷ queues) (suc at) = waiting_popped queues at

take_one_more : (m : ℕ) (xs : List Frame) → take 1 xs ++ take m (drop 1 xs) ≡ take (suc m) xs
take_one_more zero [] = refl
take_one_more (suc m) [] = refl
take_one_more m (x ∷ xs) = refl

take_one : (before : Option Key) (more : ℕ) (waiting : List Frame) → 0 < run_length before more waiting → length (take 1 waiting) ≡ 1
take_one before more waiting some = let one = has_one before more waiting some in ap (λ (l : List Frame). length (take 1 l)) one.is

-- so many packets of a run are sent by as many emissions
pub run_passes : (m : ℕ) (state : MillState) (at : ℕ) (before : Option Key) → (0 < m → next_in state ≡ Packet at) → OthersNotBefore at before state.queues
    → m ≤ run_length before (state.limit - length state.sent) (waiting_at at state.queues) → run (replicate m Emit) state ≡ passed at m state
run_passes zero state at before next others within =
    ap (λ (l : List Queue). let s : MillState = record { queues = l; sent = state.sent; limit = state.limit } in s) (sym (at_place_none state.queues at))
    ∙ ap (λ (l : List Frame). let s : MillState = record { queues = at_place (dropped 0) at state.queues; sent = l; limit = state.limit } in s) (sym (append-nil state.sent))
run_passes (suc m) state at before next others within =
    let queues = state.queues in
    let more = state.limit - length state.sent in
    let waiting = waiting_at at queues in
    let comes : next_in state ≡ Packet at = next (omega arith) in
    let some : 0 < run_length before more waiting = omega arith in
    let s : MillState = emitted (Packet at) state in
    let e : happens state Emit ≡ s = ap (λ n. emitted n state) comes in
    let longer : length s.sent ≡ length state.sent + 1 = length-append state.sent (take 1 waiting) ∙ omega (arith, take_one before more waiting some) in
    let less : s.limit - length s.sent ≡ more - 1 = omega arith in
    let left = one_less before more waiting some in
    let there = waiting_popped queues at in
    let within' : m ≤ run_length before (s.limit - length s.sent) (waiting_at at s.queues) =
    subst (λ n. m ≤ run_length before n (waiting_at at s.queues)) (sym less) (subst (λ (l : List Frame). m ≤ run_length before (more - 1) l) (sym there) (omega arith)) in
    let next' : 0 < m → next_in s ≡ Packet at = λ again.
    ap (λ n. next_of n s.queues) less ∙ run_goes_on more at before queues comes others (omega arith) in
    ap (run (replicate m Emit)) e
    ∙ run_passes m s at before next' (others_still popped queues at before others) within'
    ∙ ap (λ (l : List Queue). let t : MillState = record { queues = l; sent = (state.sent ++ take 1 waiting) ++ take m (waiting_at at s.queues); limit = state.limit } in t) (at_place_more m queues at)
    ∙ ap (λ (l : List Frame). let t : MillState = record { queues = at_place (dropped (suc m)) at queues; sent = l; limit = state.limit } in t)
    (ap (λ (l : List Frame). (state.sent ++ take 1 waiting) ++ take m l) there
    ∙ append_assoc state.sent (take 1 waiting) (take m (drop 1 waiting))
    ∙ ap (λ (l : List Frame). state.sent ++ l) (take_one_more m waiting))

-- ---- a run has a packet

-- where a packet comes next, it stands before all others that wait first
has_there : (lists : List (List Frame)) (at core : ℕ) (new : List Frame) (y : Frame) (rest : List Frame) → ¬ (core ≡ at) → slice_get lists core ≡ Some (y ∷ rest)
    → Has (joined (set lists at new)) y
has_there [] at core new y rest other there = cc
has_there (xs ∷ lists) zero zero new y rest other there = absurd (other refl)
has_there (xs ∷ lists) zero (suc core) new y rest other there = (has-append new (joined lists) y).1 (inr (has_in lists core y rest there))
  where
    has_in : (lists : List (List Frame)) (core : ℕ) (y : Frame) (rest : List Frame) → slice_get lists core ≡ Some (y ∷ rest) → Has (joined lists) y
    has_in [] core y rest there = cc
    has_in (xs ∷ lists) zero y rest there = let same : xs ≡ y ∷ rest = cc in subst (λ (l : List Frame). Has (l ++ joined lists) y) (sym same) (inl refl)
    has_in (xs ∷ lists) (suc core) y rest there = (has-append xs (joined lists) y).1 (inr (has_in lists core y rest there))
has_there (xs ∷ lists) (suc at) zero new y rest other there = let same : xs ≡ y ∷ rest = cc in subst (λ (l : List Frame). Has (l ++ joined (set lists at new)) y) (sym same) (inl refl)
has_there (xs ∷ lists) (suc at) (suc core) new y rest other there =
    (has-append xs (joined (set lists at new)) y).1 (inr (has_there lists at core new y rest (λ e. other (ap suc e)) there))

-- what waits first at a core is the first that it has
stem_there : (queues : List Queue) (core : ℕ) (y : Frame) (rest : List Frame) → slice_get (all_waiting queues) core ≡ Some (y ∷ rest)
    → (later : List Frame) × (slice_get (map stem queues) core ≡ Some (y ∷ later))
stem_there queues core y rest there = let first = first_waits core queues y rest there in (first.later, first.there)

-- the packet that comes next stands before those that wait first at all other cores
pub next_stands_first : (frames : List Frame) (state : MillState) (more at core : ℕ) (x y : Frame) (rest rest' : List Frame) → IsMill frames state → next_of more state.queues ≡ Packet at
    → slice_get (all_waiting state.queues) at ≡ Some (x ∷ rest) → ¬ (core ≡ at) → slice_get (all_waiting state.queues) core ≡ Some (y ∷ rest') → IsTrue (is_before (key_of x) (key_of y))
next_stands_first frames state more at core x y rest rest' mill next there other there' =
    let queues = state.queues in
    let stems = map stem queues in
    let chosen = packet_is_least more at queues next in
    let same : chosen.frame ≡ x = let both : Some (chosen.frame ∷ chosen.rest) ≡ Some (x ∷ rest) = sym chosen.there ∙ there in cc in
    let least = subst (λ (f : Frame). AllByRecursion (BeginsNotBefore key_of f) (all_waiting queues)) same chosen.least in
    let first = first_waits at queues x rest there in
    let apart = pairs_with_first (AreApart key_of) (λ a b unequal e. unequal (sym e.0, sym e.1)) stems at x first.later first.there mill.distinct in
    let all = before_others key_of stems at x first.later first.there mill.rising (stems_not_before x queues chosen.served least) apart in
    let later = stem_there queues core y rest' there' in
    all_at (ComesBefore key_of x) (joined (set stems at first.later)) y all (has_there stems at core first.later y later.0 other later.1)

one_stands : (before : Option Key) (more : ℕ) (x : Frame) (rest waiting : List Frame) → waiting ≡ x ∷ rest → 0 < more → IsTrue (stands_before (key_of x) before)
    → 0 < run_length before more waiting
one_stands before zero x rest waiting is some stands = absurd (omega arith)
one_stands before (suc more) x rest waiting is some stands =
    subst (λ n. 0 < n) (sym (ap (run_length before (suc more)) is ∙ ap (λ t. cond t (suc (run_length before more rest)) 0) stands)) (omega arith)

-- a run has a packet: where one comes next, it stands before the least of all others
pub run_has_one : (frames : List Frame) (state : MillState) (more at : ℕ) (before : Option Key) → IsMill frames state → next_of more state.queues ≡ Packet at
    → IsLeastElsewhere at before state.queues → 0 < run_length before more (waiting_at at state.queues)
run_has_one frames state more at before mill next elsewhere =
    let queues = state.queues in
    let chosen = packet_is_least more at queues next in
    let x = chosen.frame in
    one_stands before more x chosen.rest (waiting_at at queues) (waiting_is queues at (x ∷ chosen.rest) chosen.there) (more_left more at queues next) (stands before elsewhere)
  where
    stands : (bound : Option Key) → IsLeastElsewhere at bound state.queues → IsTrue (stands_before (key_of (packet_is_least more at state.queues next).frame) bound)
    stands None elsewhere = refl
    stands (Some key) elsewhere =
        let chosen = packet_is_least more at state.queues next in
        let x = chosen.frame in
        let w = elsewhere.is_one key refl in
        subst (λ (k : Key). IsTrue (is_before (key_of x) k)) (sym w.is)
        (next_stands_first frames state more at w.core x w.frame chosen.rest w.rest mill next chosen.there w.other w.there)
