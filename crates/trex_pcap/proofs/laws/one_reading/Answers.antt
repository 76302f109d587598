use Rattle.trex_pcap.proofs.ReadingLemmas.{capture_once}
use Rattle.trex_pcap.proofs.laws.one_reading.Goals as goal

pub returns : goal.returns
returns c = capture_once
