-- The pieces that are written are the line's.
use Rattle.std.proofs.Common.{◌∙◌}
use Rattle.trex_report.specs.Texts.{session_line}
use Rattle.trex_report.proofs.line.write_bad_session.Goals as goal

pub returns : goal.returns
unfolding session_line
returns g c =
    let number = c.as_bytes-2.ensures.value ∙ c.format.ensures.text in
    rw (c.as_bytes.ensures.value, number) at c.write_pieces.ensures
