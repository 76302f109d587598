-- What a refill makes of a queue.
use Rattle.std.proofs.Common.{◌≡◌, ℕ, ◌+◌, ◌-◌, ◌≤◌, List, [], ◌∷◌, ◌++◌, length, map, take, drop, refl, sym, ap, ◌∙◌, arith, append_assoc}
use Rattle.std.proofs.Math.Seq.{take-append-add, drop-append-add}
use Rattle.std.proofs.lemmas.List.{take-append-drop, take_at, drop_at}
use Rattle.trex_merge.specs.Frames.{Frame}
use Rattle.trex_merge.specs.Queues.{Queue, refilled, stem}
use Rattle.trex_core.specs.Batches.{IsWithin, batch_of}
use Rattle.trex_core.specs.Works.{IsSettled, Work, added, numbers_of, stem_numbers, turned}
use Rattle.trex_core.specs.Beginnings.{batch_longest, batch_prefix}

-- Where a queue holds the same packets in the same order, and no fewer wait, the first of those to come were put to the waiting ones.
pub refilled_is : (old new : Queue) → stem new ≡ stem old → length old.waiting ≤ length new.waiting
    → new ≡ refilled (length new.waiting - length old.waiting) old
refilled_is old new same more =
    let n = length new.waiting - length old.waiting in
    let long : length new.waiting ≡ length old.waiting + n = omega arith in
    let front : take (length new.waiting) (stem new) ≡ new.waiting = take_at new.waiting new.coming (length new.waiting) refl in
    let back : drop (length new.waiting) (stem new) ≡ new.coming = drop_at new.waiting new.coming (length new.waiting) refl in
    let waiting : new.waiting ≡ old.waiting ++ take n old.coming =
    sym front ∙ ap (take (length new.waiting)) same ∙ ap (λ m. take m (stem old)) long ∙ take-append-add old.waiting old.coming n in
    let coming : new.coming ≡ drop n old.coming =
    sym back ∙ ap (drop (length new.waiting)) same ∙ ap (λ m. drop m (stem old)) long ∙ drop-append-add old.waiting old.coming n in
    ap (λ (xs : List Frame). let q : Queue = record { waiting = xs; coming = new.coming } in q) waiting
    ∙ ap (λ (xs : List Frame). let q : Queue = record { waiting = old.waiting ++ take n old.coming; coming = xs } in q) coming

-- a refill puts as many packets to the waiting ones as the batch has then
pub turned_is : (old new : Queue) → stem new ≡ stem old → length old.waiting ≤ length new.waiting → new.waiting ≡ batch_of (stem old)
    → new ≡ refilled (added old) old
turned_is old new same more settled =
    refilled_is old new same more ∙ ap (λ (w : List Frame). refilled (length w - length old.waiting) old) settled

-- a refill keeps all packets in their order
pub stem-refilled : (most : ℕ) (queue : Queue) → stem (refilled most queue) ≡ stem queue
stem-refilled most queue =
    append_assoc queue.waiting (take most queue.coming) (drop most queue.coming)
    ∙ ap (λ (xs : List Frame). queue.waiting ++ xs) (take-append-drop most queue.coming)

-- where what waits is within the limits, the batch is what waits after a refill
pub refill_settles : (queue : Queue) → IsWithin queue.waiting → IsSettled (refilled (added queue) queue)
refill_settles queue within =
    let all = stem queue in
    let prefix = batch_prefix all in
    let more : length queue.waiting ≤ length (batch_of all) = batch_longest queue.waiting all within (queue.coming, refl) in
    let long : length (batch_of all) ≡ length queue.waiting + added queue = omega arith in
    let front : take (length (batch_of all)) all ≡ batch_of all =
    ap (take (length (batch_of all))) (sym prefix.1) ∙ take_at (batch_of all) prefix.0 (length (batch_of all)) refl in
    sym (take-append-add queue.waiting queue.coming (added queue)) ∙ ap (λ n. take n all) (sym long) ∙ front
    ∙ ap batch_of (sym (stem-refilled (added queue) queue))

-- packets that are the same as numbers are the same
same_frames : (xs ys : List Frame) → map numbers_of xs ≡ map numbers_of ys → xs ≡ ys
same_frames [] [] same = refl
same_frames [] (y ∷ ys) same = cc
same_frames (x ∷ xs) [] same = cc
same_frames (x ∷ xs) (y ∷ ys) same =
    let time : x.time ≡ y.time = cc in
    let stream : x.stream ≡ y.stream = cc in
    let number : x.number ≡ y.number = cc in
    let bytes : x.bytes ≡ y.bytes = cc in
    let rest : map numbers_of xs ≡ map numbers_of ys = cc in
    let here : x ≡ y = λ i. record { time = time i; stream = stream i; number = number i; bytes = bytes i } in
    let later = same_frames xs ys rest in
    λ i. here i ∷ later i

-- a work with the core and the packets of another, one turn more, and as many packets waiting as fit, is what a turn makes of that one
pub turned_by_stem : (old new : Work) → IsWithin old.queue.waiting → new.core ≡ old.core → new.turns ≡ old.turns + 1
    → stem_numbers new ≡ stem_numbers old → IsSettled new.queue → new ≡ turned old
turned_by_stem old new within core turns same settled =
    let base : new.base ≡ old.base = cc in
    let frames : map numbers_of (stem new.queue) ≡ map numbers_of (stem old.queue) = cc in
    let stems : stem new.queue ≡ stem old.queue = same_frames (stem new.queue) (stem old.queue) frames in
    let waiting : new.queue.waiting ≡ batch_of (stem old.queue) = settled ∙ ap batch_of stems in
    let more : length old.queue.waiting ≤ length (batch_of (stem old.queue)) = batch_longest old.queue.waiting (stem old.queue) within (old.queue.coming, refl) in
    let longer : length old.queue.waiting ≤ length new.queue.waiting = omega (arith, more, ap length waiting) in
    let queue = turned_is old.queue new.queue stems longer waiting in
    λ i. record { core = core i; turns = turns i; base = base i; queue = queue i }
