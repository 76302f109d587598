use Rattle.trex_decimal.proofs.NumberLemmas.{whole_of-decimal}
use Rattle.trex_import_law.proofs.EntryLemmas.{decoded_of-encode_of, scaled_of-microseconds}
use Rattle.trex_import_law.proofs.laws.entries_read_back.Goals as goal

pub returns-clause-gap : goal.returns-clause-gap
returns-clause-gap c = scaled_of-microseconds

pub returns-clause-packet : goal.returns-clause-packet
returns-clause-packet c = decoded_of-encode_of

pub returns-clause-id : goal.returns-clause-id
returns-clause-id c = whole_of-decimal
