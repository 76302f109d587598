use Rattle.std.proofs.Common.{◌∙◌, ap, sym}
use Rattle.trex_stats.proofs.Spans.{has_reaches}
use Rattle.trex_stats.specs.Ranges.{has, with_tail}
use Rattle.trex_stats.proofs.ranges.SeqRanges.contains.Goals as goal

pub returns : goal.returns
returns c =
    c.covers.ensures ∙ sym (has_reaches (with_tail c.self.inside.ranges.entries c.self.inside.tail) c.args.number c.last_begun.result c.self.invariant.0 c.last_begun.ensures)
    ∙ ap (λ l. has l c.args.number) c.self.view_is
