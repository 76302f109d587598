use Rattle.trex_import_law.proofs.Packets.{imported-run, imported-sequence}
use Rattle.trex_import_law.proofs.Rules.{imported-verdict}
use Rattle.trex_import_law.proofs.laws.imports_run_back.Goals as goal

pub returns-clause-accepted : goal.returns-clause-accepted
returns-clause-accepted c = imported-verdict

pub returns-clause-sends : goal.returns-clause-sends
returns-clause-sends c = imported-sequence

pub returns-clause-captured : goal.returns-clause-captured
returns-clause-captured c = imported-run
