use Rattle.trex_report.specs.Texts.{capture_line}
use Rattle.trex_report.proofs.capture.write_capture_line.Goals as goal

pub returns-in-None : goal.returns-in-None
unfolding capture_line
returns-in-None g c = rw (c.in-None.is, ← c.as_bytes-name.ensures.value) c.write_pieces.ensures

pub returns-in-Some : goal.returns-in-Some
unfolding capture_line
returns-in-Some g c = rw (c.in-Some.is, ← c.as_bytes-name.ensures.value, ← c.format.ensures.text, ← c.as_bytes-number.ensures.value) c.write_pieces-in-Some.ensures
