-- The pieces that are gathered are the line's.
use Rattle.trex_report.specs.Texts.{flow_line}
use Rattle.trex_report.proofs.flows.write_flow.Goals as goal

pub returns : goal.returns
unfolding flow_line
returns g c =
    rw (
      c.bytes.ensures,
      c.text.ensures,
      c.number-9.ensures.text,
      c.number-8.ensures.text,
      c.number-7.ensures.text,
      c.number-6.ensures.text,
      c.number-5.ensures.text,
      c.number-4.ensures.text,
      c.number-3.ensures.text,
      c.number-2.ensures.text,
      c.number.ensures.text,
      c.new-line.ensures,
    ) at c.write_all.ensures
