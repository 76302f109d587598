use Rattle.std.proofs.Common.{◌≡◌, length, take}
use Rattle.trex_core.specs.Records.{text_length}
use Rattle.trex_core.proofs.RunLemmas.{IsCounted}
use Rattle.trex_core.proofs.batch.measure_run.Given as goal

abbrev pub invariant-loop-packet : goal.invariant-loop-packet
invariant-loop-packet l = record {
  counted : IsCounted l.before (length l.packets) l.packets l.packet-index;
  count : l.count ≡ l.packet-index;
  bytes : l.bytes ≡ text_length (take l.packet-index l.packets);
}
