-- What a turn of each work leaves: a packet waits wherever something is left, and each work has one turn more.
use Rattle.std.proofs.Common.{◌≡◌, ℕ, zero, suc, ◌+◌, ◌-◌, ◌≤◌, ◌<◌, false, List, [], ◌∷◌, ◌++◌, length, map, take, drop, refl, ap, arith}
use Rattle.std.specs.List.{AllByRecursion}
use Rattle.trex_core.specs.Batches.{batch_of}
use Rattle.trex_core.specs.Works.{Work, added, turned}
use Rattle.trex_core.specs.Beginnings.{batch_longest}
use Rattle.trex_core.specs.Turning.{stem-refilled}
use Rattle.trex_merge.specs.Frames.{Frame, key_of}
use Rattle.trex_merge.specs.Machine.{IsMill, MillState}
use Rattle.trex_merge.specs.Order.{joined, ordered}
use Rattle.trex_merge.specs.Queues.{Queue, is_needy, is_none_left, refilled, stem}
use Rattle.trex_merge.proofs.OrderLemmas.{all_at, all_from, same-ordered}
use Rattle.trex_merge.proofs.ListLemmas.{all-append_left, all-append_right}
use Rattle.trex_run.specs.State.{IsShort}
use Rattle.trex_run.specs.Ready.{queues_of}

-- ---- after a turn nobody has to be waited for

-- a batch takes at least the first packet
takes_one : (frame : Frame) (rest : List Frame) → IsShort frame → 1 ≤ length (batch_of (frame ∷ rest))
takes_one frame rest short =
    batch_longest (frame ∷ []) (frame ∷ rest) (record { packets = omega arith; bytes = omega (arith, short) }) (rest, refl)

-- what is taken of a list that isn't empty isn't empty
takes_some : (n : ℕ) (frame : Frame) (rest : List Frame) → 1 ≤ n → is_none_left (take n (frame ∷ rest)) ≡ false
takes_some zero frame rest some = absurd (omega arith)
takes_some (suc n) frame rest some = refl

-- of an empty list nothing is taken, and nothing is left
none_taken : (n : ℕ) → is_needy (record { waiting = take n []; coming = drop n [] }) ≡ false
none_taken zero = refl
none_taken (suc n) = refl

pub calm : (queue : Queue) → AllByRecursion IsShort (stem queue) → is_needy (refilled (added queue) queue) ≡ false
calm queue short = by_queue queue.waiting queue.coming short
  where
    by_queue : (waiting coming : List Frame) → AllByRecursion IsShort (waiting ++ coming)
        → is_needy (refilled (added (record { waiting = waiting; coming = coming })) (record { waiting = waiting; coming = coming })) ≡ false
    by_queue (frame ∷ waiting) coming short = refl
    by_queue [] [] short = none_taken (length (batch_of []) - 0)
    by_queue [] (frame ∷ coming) short =
        let one = takes_one frame coming short.0 in
        rw (takes_some (length (batch_of (frame ∷ coming)) - 0) frame coming (omega (arith, one))) refl

-- ---- every packet that is left is short

-- a queue's part of what is left
each_stem : (queues : List Queue) → AllByRecursion IsShort (joined (map stem queues)) → AllByRecursion (λ queue. AllByRecursion IsShort (stem queue)) queues
each_stem [] all = tt
each_stem (queue ∷ queues) all = (
  all-append_left IsShort (stem queue) (joined (map stem queues)) all,
  each_stem queues (all-append_right IsShort (stem queue) (joined (map stem queues)) all),
)

-- what holds of values in order holds of the values
pub all_ordered : (frames : List Frame) → AllByRecursion IsShort frames → AllByRecursion IsShort (ordered key_of frames)
all_ordered frames all = all_from IsShort (ordered key_of frames) (λ x has. all_at IsShort frames x all ((same-ordered key_of frames x).0 has))

all_unordered : (frames : List Frame) → AllByRecursion IsShort (ordered key_of frames) → AllByRecursion IsShort frames
all_unordered frames all = all_from IsShort frames (λ x has. all_at IsShort (ordered key_of frames) x all ((same-ordered key_of frames x).1 has))

pub stems_short : (frames : List Frame) (state : MillState) → IsMill frames state → AllByRecursion IsShort frames
    → AllByRecursion (λ queue. AllByRecursion IsShort (stem queue)) state.queues
stems_short frames state mill short =
    let whole = mill.whole in
    let rest : AllByRecursion IsShort (ordered key_of (joined (map stem state.queues))) =
    all-append_right IsShort state.sent (ordered key_of (joined (map stem state.queues))) (rw whole (all_ordered frames short)) in
    each_stem state.queues (all_unordered (joined (map stem state.queues)) rest)

-- ---- a turn of each work

-- works with the same marks have the same turns
pub turns_by_marks : (most : ℕ) (new old : List Work) → map (λ (w : Work). w.core ∷ w.turns ∷ w.base ∷ []) new ≡ map (λ (w : Work). w.core ∷ w.turns ∷ w.base ∷ []) old
    → AllByRecursion (λ work. work.turns ≤ most) old → AllByRecursion (λ work. work.turns ≤ most) new
turns_by_marks most [] old same all = tt
turns_by_marks most (v ∷ new) [] same all = cc
turns_by_marks most (v ∷ new) (w ∷ old) same all =
    let turns : v.turns ≡ w.turns = cc in
    let rest : map (λ (w : Work). w.core ∷ w.turns ∷ w.base ∷ []) new ≡ map (λ (w : Work). w.core ∷ w.turns ∷ w.base ∷ []) old = cc in
    let here = all.0 in
    (omega (arith, turns, here), turns_by_marks most new old rest all.1)

-- how many turns at most, in another way
pub turns_within : (most room : ℕ) (works : List Work) → most ≤ room → AllByRecursion (λ work. work.turns ≤ most) works → AllByRecursion (λ work. work.turns ≤ room) works
turns_within most room [] within all = tt
turns_within most room (w ∷ works) within all = let here = all.0 in (omega arith, turns_within most room works within all.1)

pub turns_below : (most room : ℕ) (works : List Work) → most < room → AllByRecursion (λ work. work.turns ≤ most) works → AllByRecursion (λ work. work.turns < room) works
turns_below most room [] within all = tt
turns_below most room (w ∷ works) within all = let here = all.0 in (omega arith, turns_below most room works within all.1)

-- one turn more of each
pub turns_more : (most : ℕ) (works : List Work) → AllByRecursion (λ work. work.turns ≤ most) works → AllByRecursion (λ work. work.turns ≤ most + 1) (map turned works)
turns_more most [] all = tt
turns_more most (w ∷ works) all = let here = all.0 in (omega arith, turns_more most works all.1)

-- what the cores have still to send, after a turn of each
pub queues_turned : (works : List Work) → queues_of (map turned works) ≡ map (λ queue. refilled (added queue) queue) (queues_of works)
queues_turned [] = refl
queues_turned (w ∷ works) = ap (λ (l : List Queue). refilled (added w.queue) w.queue ∷ l) (queues_turned works)

-- a refill changes no stem
pub stems_turned : (queues : List Queue) → map stem (map (λ queue. refilled (added queue) queue) queues) ≡ map stem queues
stems_turned [] = refl
stems_turned (queue ∷ queues) = rw (stem-refilled (added queue) queue, stems_turned queues) refl

-- after it nobody has to be waited for
pub all_calm : (queues : List Queue) → AllByRecursion (λ queue. AllByRecursion IsShort (stem queue)) queues
    → AllByRecursion (λ queue. is_needy queue ≡ false) (map (λ queue. refilled (added queue) queue) queues)
all_calm [] short = tt
all_calm (queue ∷ queues) short = (calm queue short.0, all_calm queues short.1)
