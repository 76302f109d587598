use Rattle.trex_headers.proofs.VerifiedHeaders.{built-verifies}
use Rattle.trex_headers.proofs.laws.headers_verify.Goals as goal

pub returns : goal.returns
returns c = built-verifies
