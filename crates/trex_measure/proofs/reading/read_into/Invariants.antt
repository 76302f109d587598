use Rattle.std.proofs.Common.{◌≡◌, ◌+◌, ◌*◌, ◌-◌, ◌≤◌, true, length}
use Rattle.std.specs.Io.KnownBytes.{prepend_known}
use Rattle.trex_measure.proofs.ProgressLemmas.{Progress}
use Rattle.trex_measure.proofs.reading.read_into.Given as goal

abbrev pub invariant-records : goal.invariant-records
invariant-records g l = record {
  most : l.records ≤ 100000000;
  counted : g.K.Keep.kept l.keep ≡ l.records;
  mark : g.K.Keep.mark l.keep ≡ g.K.Keep.mark l.fn.keep;
  faults : g.S.Source.faults l.fn.input ≤ g.S.Source.faults l.input;
  progress : Progress (g.S.Source.left l.fn.input) (prepend_known l.window (g.S.Source.left l.input)) (record { format = l.format; records = l.records; live = true })
      (g.K.Keep.stands l.keep);
}

abbrev pub decreases-records : goal.decreases-records
decreases-records g l = (100000000 - l.records) * 1048576 + (327696 - length l.window)
