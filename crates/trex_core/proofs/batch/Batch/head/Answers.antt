use Rattle.trex_core.proofs.Records.{first_of, some_first}
use Rattle.trex_core.proofs.batch.Batch.head.Goals as goal

pub first_bytes-requires : goal.first_bytes-requires
first_bytes-requires c = some_first c.args.self.now.waiting c.in_ok-key.key c.in_ok-key.ensures

pub returns : goal.returns
returns c = first_of c.args.self.now.waiting c.in_ok-key.key c.first_bytes.result.now c.in_ok-key.ensures c.first_bytes.ensures
