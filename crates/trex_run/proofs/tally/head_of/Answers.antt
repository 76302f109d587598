use Rattle.std.proofs.Common.{◌≡◌, ◌∷◌, List, Option, Some, None, ap, sym, ◌∙◌, refl}
use Rattle.std.specs.List.{slice_get}
use Rattle.std.specs.Option.{IsSome, option_map}
use Rattle.trex_core.specs.Works.{Work}
use Rattle.trex_merge.specs.declared.head.Head.{Head}
use Rattle.trex_merge.specs.Frames.{Frame, frame_of}
use Rattle.trex_merge.specs.Queues.{waiting_at}
use Rattle.trex_run.specs.Ready.{queues_of}
use Rattle.trex_run.proofs.HeadLemmas.{waiting_is, waiting_of, waits_within}
use Rattle.trex_run.proofs.tally.head_of.Goals as goal

-- what has a packet is there
there_is : (head : Option Head) (frame : Frame) → option_map frame_of head ≡ Some frame → IsSome head
there_is None frame is = cc
there_is (Some head) frame is = refl

pub unwrap-requires : goal.unwrap-requires
unwrap-requires c =
    let works = c.args.works.now in
    let at = c.args.feed in
    let waiting = c.requires.frame ∷ c.requires.rest in
    let work = c.index-works-feed.result in
    let first : work.queue.waiting ≡ waiting =
    ap (λ (w : Work). w.queue.waiting) c.index-works-feed.is ∙ sym (waiting_of works at work (waits_within works at waiting c.requires.there))
    ∙ waiting_is (queues_of works) at waiting c.requires.there in
    there_is c.head.result c.requires.frame (c.head.ensures.first ∙ ap (λ (l : List Frame). slice_get l 0) first)

pub returns : goal.returns
returns c =
    let works = c.args.works.now in
    let at = c.args.feed in
    let waiting = c.requires.frame ∷ c.requires.rest in
    let work = c.index-works-feed.result in
    let first : waiting_at at (queues_of works) ≡ work.queue.waiting =
    waiting_of works at work (waits_within works at waiting c.requires.there) ∙ sym (ap (λ (w : Work). w.queue.waiting) c.index-works-feed.is) in
    ap (λ (l : List Frame). slice_get l 0) first ∙ sym c.head.ensures.first ∙ ap (option_map frame_of) c.unwrap.ensures
