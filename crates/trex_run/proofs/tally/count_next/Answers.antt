use Rattle.std.proofs.Common.{arith}
use Rattle.trex_run.proofs.TallyLemmas.{AtMostPackets-more}
use Rattle.trex_run.proofs.tally.count_next.Goals as goal

pub count-requires-clause-room : goal.count-requires-clause-room
count-requires-clause-room c = AtMostPackets-more 100000000 200000000 c.args.tallies.now (omega arith) c.requires.room
