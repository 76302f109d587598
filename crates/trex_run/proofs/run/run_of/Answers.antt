use Rattle.std.proofs.Common.{List, map, take, ap, sym, ◌∙◌, subst}
use Rattle.std.specs.List.{AllByRecursion}
use Rattle.trex_core.specs.Records.{waiting_of}
use Rattle.trex_core.specs.Texts.{records_text}
use Rattle.trex_merge.specs.Frames.{Frame}
use Rattle.trex_merge.specs.Runs.{run_length}
use Rattle.trex_run.specs.Ready.{queues_of, run_at}
use Rattle.trex_run.specs.State.{IsShort}
use Rattle.trex_run.proofs.PassLemmas.{base_there, made_short, waiting_there}
use Rattle.trex_run.proofs.run.run_of.Goals as goal

pub returns-clause-packets : goal.returns-clause-packets
returns-clause-packets c =
    let there = waiting_there c.args.works.now c.args.feed c.index-works-feed.result c.requires c.index-works-feed.is in
    c.run_before.ensures.packets ∙ ap (λ (l : List Frame). map waiting_of (take (run_length c.args.before c.args.left l) l)) (sym there)

pub returns-clause-text : goal.returns-clause-text
returns-clause-text c =
    let there = waiting_there c.args.works.now c.args.feed c.index-works-feed.result c.requires c.index-works-feed.is in
    let base = base_there c.args.works.now c.args.feed c.index-works-feed.result c.requires c.index-works-feed.is in
    c.run_before.ensures.text
    ∙ ap (λ (l : List Frame). records_text c.index-works-feed.result.base (take (run_length c.args.before c.args.left l) l)) (sym there)
    ∙ ap (λ n. records_text n (run_at c.args.feed c.args.before c.args.left (queues_of c.args.works.now))) (sym base)

pub returns-clause-short : goal.returns-clause-short
returns-clause-short c =
    let there = waiting_there c.args.works.now c.args.feed c.index-works-feed.result c.requires c.index-works-feed.is in
    subst (λ (l : List Frame). AllByRecursion IsShort l) (sym there) (made_short c.index-works-feed.result.queue.waiting c.run_before.ensures.made)
