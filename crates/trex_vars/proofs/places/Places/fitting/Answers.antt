use Rattle.std.proofs.Common.{◌+◌, ◌/◌, arith}
use Rattle.trex_vars.proofs.Quotients.{guess-least, guess-most, reciprocal-fits, reciprocal-near}
use Rattle.trex_vars.proofs.places.Places.fitting.Goals as goal

pub returns-clause-least : goal.returns-clause-least
returns-clause-least c =
    let places = c.args.self.now.last + 1 in
    rw (c.from.ensures, c.from-2.ensures, c.args.self.now.reciprocal_is)
    (guess-least c.args.word places (18446744073709551615 / places) 18446744073709551616 (omega arith) (reciprocal-fits 18446744073709551615 places))

pub returns-clause-most : goal.returns-clause-most
returns-clause-most c =
    let places = c.args.self.now.last + 1 in
    rw (c.from.ensures, c.from-2.ensures, c.args.self.now.reciprocal_is)
    (guess-most c.args.word places (18446744073709551615 / places) 18446744073709551616 c.ranges.word.fits (omega arith) (reciprocal-near 18446744073709551615 places (omega arith)))
