-- The packet that waits first at a core, and what is counted of it.
use Rattle.std.proofs.Common.{◌≡◌, ℕ, zero, suc, ◌+◌, ◌<◌, List, [], ◌∷◌, length, take, refl, sym, ap, ◌∙◌, arith, get_or, Some}
use Rattle.std.specs.List.{AllByRecursion, slice_get}
use Rattle.trex_core.specs.Works.{Work}
use Rattle.trex_merge.specs.declared.next.Next.{Next}
use Rattle.trex_merge.specs.declared.next.Next.TheVariants.{Packet, Need, End}
use Rattle.trex_merge.specs.Frames.{Frame, key_of, sequence}
use Rattle.trex_merge.specs.Machine.{MillState, next_in}
use Rattle.trex_merge.proofs.EventLemmas.{next_in_sequence}
use Rattle.std.proofs.lemmas.List.{length-take-le}
use Rattle.trex_merge.specs.Order.{ordered}
use Rattle.trex_merge.specs.Queues.{Queue, all_waiting, stem, waiting_at}
use Rattle.trex_merge.proofs.ListLemmas.{all-append_left}
use Rattle.trex_profile.specs.Stream.{Stream}
use Rattle.trex_report.specs.declared.report.Tally.{Tally}
use Rattle.trex_run.specs.Capture.{tallies}
use Rattle.trex_run.specs.Tallies.{counted}
use Rattle.trex_run.specs.Step.{packet_ahead, mill_after}
use Rattle.trex_run.specs.State.{IsShort}
use Rattle.trex_run.specs.Ready.{CountsNext, IsReady, queues_of}
use Rattle.trex_run.proofs.ListLemmas.{take-next, drop_get}
use Rattle.trex_run.proofs.MillLemmas.{next_is}
use Rattle.trex_run.proofs.TallyLemmas.{tallies-more}

-- ---- the first packet that waits somewhere

-- what waits at a place
pub waiting_is : (queues : List Queue) (at : ℕ) (waiting : List Frame) → slice_get (all_waiting queues) at ≡ Some waiting → waiting_at at queues ≡ waiting
waiting_is [] at waiting there = cc
waiting_is (queue ∷ queues) zero waiting there = cc
waiting_is (queue ∷ queues) (suc at) waiting there = waiting_is queues at waiting there

-- the same of a work
pub waiting_of : (works : List Work) (at : ℕ) (d : Work) → at < length works → waiting_at at (queues_of works) ≡ (get_or works at d).queue.waiting
waiting_of [] at d within = absurd (omega arith)
waiting_of (w ∷ works) zero d within = refl
waiting_of (w ∷ works) (suc at) d within = waiting_of works at d (omega arith)

-- a place at which something waits is one of the works
pub waits_within : (works : List Work) (at : ℕ) (waiting : List Frame) → slice_get (all_waiting (queues_of works)) at ≡ Some waiting → at < length works
waits_within [] at waiting there = cc
waits_within (w ∷ works) zero waiting there = omega arith
waits_within (w ∷ works) (suc at) waiting there = let rest = waits_within works at waiting there in omega arith

-- ---- what is counted

-- each packet of a list is the one that waits first, where it waits
pub all_waiting_short : (queues : List Queue) (at : ℕ) → AllByRecursion (λ queue. AllByRecursion IsShort (stem queue)) queues → AllByRecursion IsShort (waiting_at at queues)
all_waiting_short [] at short = tt
all_waiting_short (queue ∷ queues) zero short = all-append_left IsShort queue.waiting queue.coming short.0
all_waiting_short (queue ∷ queues) (suc at) short = all_waiting_short queues at short.1

-- the packet that comes next in the sequence
pub coming_is : (frames : List Frame) (works : List Work) (rounds limit sent at : ℕ) → IsReady frames works rounds limit sent (Packet at)
    → slice_get (waiting_at at (queues_of works)) 0 ≡ slice_get (sequence limit frames) sent
coming_is frames works rounds limit sent at ready =
    let state : MillState = mill_after frames (queues_of works) sent limit in
    let next : next_in state ≡ Packet at = next_is frames (queues_of works) sent limit ready.counted ∙ sym ready.next_is in
    next_in_sequence frames state at ready.is next
    ∙ ap (slice_get (sequence limit frames)) (length-take-le sent (ordered key_of frames) ready.counted)

pub counted_next : (p : List Stream) (frames : List Frame) (works : List Work) (rounds limit sent : ℕ) (next : Next) (old new : List Tally)
    → IsReady frames works rounds limit sent next → old ≡ tallies p (take sent (sequence limit frames)) → CountsNext next (queues_of works) old new
    → new ≡ tallies p (take (sent + packet_ahead next) (sequence limit frames))
counted_next p frames works rounds limit sent (Packet at) old new ready was (frame, there, is) =
    let seq = sequence limit frames in
    let found : slice_get seq sent ≡ Some frame = sym (coming_is frames works rounds limit sent at ready) ∙ there in
    is ∙ ap (λ (ts : List Tally). counted ts frame.stream (length frame.bytes)) was
    ∙ sym (tallies-more p (take sent seq) frame)
    ∙ ap (tallies p) (sym (take-next sent seq frame (drop_get sent seq frame found)))
counted_next p frames works rounds limit sent (Need core) old new ready was is =
    let same : sent ≡ sent + 0 = omega arith in
    is ∙ was ∙ ap (λ n. tallies p (take n (sequence limit frames))) same
counted_next p frames works rounds limit sent End old new ready was is =
    let same : sent ≡ sent + 0 = omega arith in
    is ∙ was ∙ ap (λ n. tallies p (take n (sequence limit frames))) same
