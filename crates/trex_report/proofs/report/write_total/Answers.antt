use Rattle.std.proofs.Common.{◌∙◌}
use Rattle.trex_report.specs.Texts.{total_line}
use Rattle.trex_report.proofs.report.write_total.Goals as goal

pub returns : goal.returns
unfolding total_line
returns g c =
    let packets = c.as_bytes.ensures.value ∙ c.format.ensures.text in
    let bytes = c.as_bytes-2.ensures.value ∙ c.format-2.ensures.text in
    rw (packets, bytes) at c.write_pieces.ensures
