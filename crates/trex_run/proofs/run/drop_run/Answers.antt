use Rattle.std.proofs.Common.{◌≤◌, ◌∷◌, [], List, length, take, ap, ◌∙◌, subst}
use Rattle.std.proofs.Math.Seq.{map-set_same}
use Rattle.trex_core.specs.Texts.{records_text}
use Rattle.trex_core.specs.Works.{Work}
use Rattle.trex_merge.specs.Frames.{Frame}
use Rattle.trex_merge.specs.Queues.{waiting_at}
use Rattle.trex_merge.specs.Runs.{dropped}
use Rattle.trex_merge.proofs.FeedLemmas.{map-at_place}
use Rattle.trex_run.specs.Ready.{queues_of}
use Rattle.trex_run.proofs.PassLemmas.{base_there, waiting_there}
use Rattle.trex_run.proofs.run.drop_run.Goals as goal

pub drop_run-requires-clause-packets : goal.drop_run-requires-clause-packets
drop_run-requires-clause-packets c =
    let there = waiting_there c.args.works.now c.args.feed c.index-works-feed.result c.requires.within c.index-works-feed.is ∙ ap (λ (w : Work). w.queue.waiting) c.index-works-feed.is in
    subst (λ (l : List Frame). c.args.packets ≤ length l) there c.requires.packets

pub drop_run-requires-clause-bytes : goal.drop_run-requires-clause-bytes
drop_run-requires-clause-bytes c =
    let works = c.args.works.now in
    let work = c.index-works-feed.result in
    let there = waiting_there works c.args.feed work c.requires.within c.index-works-feed.is in
    let base = base_there works c.args.feed work c.requires.within c.index-works-feed.is in
    c.requires.bytes
    ∙ ap (λ n. length (records_text n (take c.args.packets (waiting_at c.args.feed (queues_of works))))) base
    ∙ ap (λ (l : List Frame). length (records_text work.base (take c.args.packets l))) there
    ∙ ap (λ (w : Work). length (records_text w.base (take c.args.packets w.queue.waiting))) c.index-works-feed.is

pub returns-clause-queues : goal.returns-clause-queues
returns-clause-queues c = map-at_place (λ (w : Work). w.queue) (dropped c.args.packets) c.args.works.now c.args.feed c.index-works-feed.result c.drop_run.new.self
    (ap (λ (w : Work). w.queue) c.drop_run.ensures)

pub returns-clause-marks : goal.returns-clause-marks
returns-clause-marks c = map-set_same (λ (w : Work). w.core ∷ w.turns ∷ w.base ∷ []) c.args.works.now c.args.feed c.drop_run.new.self c.index-works-feed.result
    (ap (λ (w : Work). w.core ∷ w.turns ∷ w.base ∷ []) c.drop_run.ensures)
