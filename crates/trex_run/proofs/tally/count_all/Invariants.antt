use Rattle.std.proofs.Common.{◌≡◌, ◌+◌, drop}
use Rattle.trex_run.specs.Tallies.{AtMostPackets, all_counted}
use Rattle.trex_run.proofs.tally.count_all.Given as goal

abbrev pub invariant-loop-packet : goal.invariant-loop-packet
invariant-loop-packet l = record {
  counted : all_counted l.tallies (drop l.packet-index l.packets) ≡ all_counted l.initial.tallies l.packets;
  room : AtMostPackets (100000000 + l.packet-index) l.tallies;
}
