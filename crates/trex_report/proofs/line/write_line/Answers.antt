use Rattle.trex_report.proofs.line.write_line.Goals as goal

pub returns-in-ReadFault : goal.returns-in-ReadFault
returns-in-ReadFault g c = rw c.in-ReadFault.is c.write_all.ensures

pub returns-in-LineTooLong : goal.returns-in-LineTooLong
returns-in-LineTooLong g c = rw c.in-LineTooLong.is c.write_bad_session.ensures
