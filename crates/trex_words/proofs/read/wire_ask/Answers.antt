use Rattle.trex_words.proofs.read.wire_ask.Goals as goal

pub returns-clause-value : goal.returns-clause-value
returns-clause-value c = cc
