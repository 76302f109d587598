-- The pieces that are gathered are the line's.
use Rattle.trex_report.specs.Texts.{wire_line}
use Rattle.trex_report.proofs.wire.write_wire.Goals as goal

pub returns : goal.returns
unfolding wire_line
returns g c =
    rw (
      c.bytes.ensures,
      c.text.ensures,
      c.number-4.ensures.text,
      c.number-3.ensures.text,
      c.number-2.ensures.text,
      c.number.ensures.text,
      c.new-line.ensures,
    ) at c.write_all.ensures
