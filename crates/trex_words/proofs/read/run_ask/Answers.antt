use Rattle.trex_words.proofs.read.run_ask.Goals as goal

pub returns-clause-value : goal.returns-clause-value
returns-clause-value c = cc
