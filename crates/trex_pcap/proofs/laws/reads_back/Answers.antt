use Rattle.trex_pcap.proofs.ReadingLemmas.{capture_back}
use Rattle.trex_pcap.proofs.laws.reads_back.Goals as goal

pub returns : goal.returns
returns c = capture_back
