use Rattle.trex_stamp.proofs.Headers.{found_again}
use Rattle.trex_stamp.proofs.laws.stamps_are_found.Goals as goal

pub returns : goal.returns
returns c = found_again
