-- The pieces that are gathered are the line's.
use Rattle.trex_report.specs.Texts.{records_line}
use Rattle.trex_report.proofs.flows.write_records.Goals as goal

pub returns : goal.returns
unfolding records_line
returns g c =
    rw (c.bytes.ensures, c.text.ensures, c.number-3.ensures.text, c.number-2.ensures.text, c.number.ensures.text, c.new-line.ensures)
    at c.write_all.ensures
