use Rattle.std.proofs.Common.{sym, ◌∙◌}
use Rattle.trex_words.proofs.Words.{word_is}
use Rattle.trex_words.proofs.read.word.Goals as goal

pub returns : goal.returns
returns c = c.as_str.ensures.value ∙ sym (word_is c.args.words.now c.args.at c.index-words-at.result c.requires c.index-words-at.is)
