use Rattle.std.proofs.Common.{List, Option, ap, set, sym, ◌∙◌}
use Rattle.trex_core.specs.Works.{Work}
use Rattle.trex_merge.specs.declared.key.Key.{Key}
use Rattle.trex_run.specs.Firsts.{first_at}
use Rattle.trex_run.specs.Ready.{queues_of}
use Rattle.trex_run.proofs.LookLemmas.{first_there}
use Rattle.trex_run.proofs.firsts.FirstKeys.read.Goals as goal

pub returns : goal.returns
returns c =
    let works = c.args.works.now in
    let feed = c.args.feed in
    let there = first_there (λ (w : Work). w.queue) works feed c.index-works-feed.result c.requires.within c.index-works-feed.is in
    ap (set c.self.inside.keys.items feed) (c.first_key.ensures ∙ sym there)
    ∙ ap (λ (l : List (Option Key)). set l feed (first_at feed (queues_of works))) c.self.view_is
