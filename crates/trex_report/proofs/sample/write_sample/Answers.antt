-- The pieces that are gathered are the line's.
use Rattle.trex_report.specs.Texts.{sample_line}
use Rattle.trex_report.proofs.sample.write_sample.Goals as goal

pub returns : goal.returns
unfolding sample_line
returns g c =
    rw (
      c.bytes.ensures,
      c.text-3.ensures,
      c.text-2.ensures,
      c.hex.ensures,
      c.text.ensures,
      c.number-4.ensures.text,
      c.number-3.ensures.text,
      c.number-2.ensures.text,
      c.number.ensures.text,
      c.new-line.ensures,
    ) at c.write_all.ensures
