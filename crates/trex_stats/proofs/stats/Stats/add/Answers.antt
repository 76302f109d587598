use Rattle.std.proofs.Common.{refl, sym}
use Rattle.trex_io.specs.Seen.{Seen}
use Rattle.trex_stats.proofs.Standing.{but_bytes, with_bytes}
use Rattle.trex_stats.proofs.stats.Stats.add.Goals as goal

pub returns-clause-stands : goal.returns-clause-stands
returns-clause-stands c rs stands =
    let r : Seen = record { time = c.args.time; bytes = c.args.bytes.now; original = c.args.original } in
    let mid = c.count.new.self in
    let counted = c.in_ok-count.ensures in
    let added = c.add_bytes.ensures in
    with_bytes c.args.self.now mid c.add_bytes.new.self rs r stands (counted.counts rs r (but_bytes c.args.self.now rs stands) refl (sym c.of.ensures)) counted.bytes
    added.bytes added.records added.stamped added.flows
