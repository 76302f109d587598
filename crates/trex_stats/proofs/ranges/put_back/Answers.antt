use Rattle.std.proofs.Common.{◌∙◌, sym, ap, ◌∷◌, [], ◌++◌}
use Rattle.trex_stats.proofs.Spans.{put_last}
use Rattle.trex_stats.specs.Ranges.{Ascend, with_tail}
use Rattle.trex_stats.proofs.ranges.put_back.Goals as goal

pub returns-in-Ok-clause-ok : goal.returns-in-Ok-clause-ok
returns-in-Ok-clause-ok c =
    let rs = c.args.ranges.now.entries in
    let up : Ascend 0 (rs ++ (c.in-Some.first, c.in-Some.last) ∷ []) = rw c.in-Some.is at c.requires in
    c.in-Ok.ensures.entries ∙ put_last rs (c.in-Some.first, c.in-Some.last) up ∙ ap (with_tail rs) (sym c.in-Some.is)
