-- No range begins beyond the greatest number.
use Rattle.std.proofs.Common.{◌+◌, sym, ap, arith, unwrap_or}
use Rattle.trex_stats.proofs.Spans.{lookup_beyond}
use Rattle.trex_stats.proofs.ranges.last_of.Goals as goal

pub returns-in-None : goal.returns-in-None
returns-in-None c =
    sym (ap (λ o. unwrap_or o c.args.number) (lookup_beyond 0 (c.args.number + 1) c.args.ranges.now.entries c.requires (omega (arith, c.in-None.ensures))))
