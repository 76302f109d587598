use Rattle.trex_top.proofs.TooLong.{HasVerdict-too_long}
use Rattle.trex_top.proofs.input.read_input.Goals as goal

pub returns-in-Err-TooLong-clause-stops : goal.returns-in-Err-TooLong-clause-stops
returns-in-Err-TooLong-clause-stops g c =
    let err = c.in-Err-TooLong.ensures.err in
    let stops = rw c.in-Err-TooLong.field-0-is at err.2 in
    rw c.of_document.ensures (HasVerdict-too_long _ (g.S.Source.left c.read_all.new.source) err.0 err.1 stops.1)
