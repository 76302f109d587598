use Rattle.std.proofs.Common.{◌+◌, List, drop, ap, sym, ◌∙◌, subst, arith}
use Rattle.trex_report.specs.declared.report.Tally.{Tally}
use Rattle.trex_run.specs.Tallies.{AtMostPackets, all_counted}
use Rattle.trex_run.proofs.TallyLemmas.{AtMostPackets-counted, AtMostPackets-more, count_step, small_at}
use Rattle.trex_run.proofs.tally.count_all.Goals as goal

pub loop-packet-preserved : goal.loop-packet-preserved
loop-packet-preserved c =
    let i = c.loop-packet.packet-index in
    let packets = c.args.packets.now in
    let was = c.loop-packet.tallies in
    let within = c.loop-packet-test.true in
    record {
      counted = ap (λ (ts : List Tally). all_counted ts (drop (i + 1) packets)) c.count.ensures ∙ count_step was packets i _ within ∙ c.loop-packet.invariant.counted;
      room = subst (AtMostPackets (100000000 + (i + 1))) (sym c.count.ensures)
          (AtMostPackets-more ((100000000 + i) + 1) (100000000 + (i + 1)) _ (omega arith)
          (AtMostPackets-counted (100000000 + i) was _ _ (small_at packets i _ within c.requires.small) c.loop-packet.invariant.room));
    }
