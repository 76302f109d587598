use Rattle.trex_words.proofs.Numbers.{parsed_ok}
use Rattle.trex_words.proofs.read.number.Goals as goal

pub unwrap-requires : goal.unwrap-requires
unwrap-requires c = parsed_ok c.args.text.now c.parse.result c.parse.ensures.value.0 c.requires.digits c.requires.fits
