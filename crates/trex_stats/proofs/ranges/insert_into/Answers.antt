-- What the ranges hold before and after, by the last one that begins at the number or below it.
use Rattle.std.proofs.Common.{◌≡◌, ◌∙◌, sym, ap, true, false, not}
use Rattle.trex_stats.proofs.Spans.{has_reaches, gains_there}
use Rattle.trex_stats.specs.Ranges.{has, numbers}
use Rattle.trex_stats.proofs.ranges.insert_into.Goals as goal

pub returns-then-covers-clause-new : goal.returns-then-covers-clause-new
returns-then-covers-clause-new c =
    let rs = c.args.ranges.now.entries in
    let there : has (numbers rs) c.args.number ≡ true = has_reaches rs c.args.number c.range_below-below.result c.requires c.range_below-below.ensures ∙ sym c.covers.ensures ∙ c.if-covers.true in
    ap not (sym there)

pub returns-then-covers-clause-ok : goal.returns-then-covers-clause-ok
returns-then-covers-clause-ok c =
    let rs = c.args.ranges.now.entries in
    let there : has (numbers rs) c.args.number ≡ true = has_reaches rs c.args.number c.range_below-below.result c.requires c.range_below-below.ensures ∙ sym c.covers.ensures ∙ c.if-covers.true in
    gains_there rs c.args.number c.requires there

pub returns-clause-new : goal.returns-clause-new
returns-clause-new c =
    let rs = c.args.ranges.now.entries in
    let new : has (numbers rs) c.args.number ≡ false = has_reaches rs c.args.number c.range_below-below.result c.requires c.range_below-below.ensures ∙ sym c.covers.ensures ∙ c.if-covers.false in
    ap not (sym new)
