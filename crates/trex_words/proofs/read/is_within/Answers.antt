use Rattle.std.proofs.Common.{sym, arith}
use Rattle.trex_words.proofs.Numbers.{unread_past}
use Rattle.trex_words.proofs.read.is_within.Goals as goal

pub returns-in-Err : goal.returns-in-Err
returns-in-Err c = sym (unread_past c.args.text.now c.parse.result c.in-Err.field-0 c.args.least c.args.greatest c.in-Err.is c.parse.ensures.value.0 c.requires (omega (arith, c.ranges.greatest.fits)))
