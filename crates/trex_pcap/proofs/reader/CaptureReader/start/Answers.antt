-- The whole file header was read, and says how the capture begins.
use Rattle.std.proofs.Common.{sym, arith}
use Rattle.std.proofs.lemmas.Result.{err_from_is_err_and}
use Rattle.trex_pcap.proofs.Answered.{whole, Begins-fault, Begins-open}
use Rattle.trex_pcap.proofs.reader.CaptureReader.start.Goals as goal

pub returns-in_err-format-clause-begins : goal.returns-in_err-format-clause-begins
returns-in_err-format-clause-begins g c =
    let head = c.fill.new.into in
    let taken = whole _ _ head c.in-Ok.count (omega arith) c.in-Ok.ensures.bytes in
    let p = err_from_is_err_and c.from_residual.result c.from_residual.ensures.1 in
    rw (p.1, p.2) (Begins-fault head (omega arith) _ _ _ taken (sym c.in_err-format.ensures.value))

pub returns-clause-begins : goal.returns-clause-begins
returns-clause-begins g c =
    let head = c.fill.new.into in
    let taken = whole _ _ head c.in-Ok.count (omega arith) c.in-Ok.ensures.bytes in
    Begins-open head (omega arith) _ _ _ taken (sym c.in_ok-format.ensures.value)
