use Rattle.trex_import_law.proofs.ReadingLemmas.{imported-quoted, imported-read, imported-utf8}
use Rattle.trex_import_law.proofs.laws.imports_read_back.Goals as goal

pub returns-clause-utf8 : goal.returns-clause-utf8
returns-clause-utf8 c = imported-utf8

pub returns-clause-quoted : goal.returns-clause-quoted
returns-clause-quoted c = imported-quoted

pub returns-clause-reads : goal.returns-clause-reads
returns-clause-reads c = imported-read
