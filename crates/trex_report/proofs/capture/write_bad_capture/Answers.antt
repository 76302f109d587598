use Rattle.trex_report.proofs.capture.write_bad_capture.Goals as goal

pub returns : goal.returns
returns g c = rw (← c.fault_name.ensures, ← c.record_of.ensures) c.write_capture_line.ensures
