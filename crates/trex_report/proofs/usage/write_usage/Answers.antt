use Rattle.trex_report.proofs.usage.write_usage.Goals as goal

pub returns-in-NoCommand : goal.returns-in-NoCommand
returns-in-NoCommand g c = rw c.in-NoCommand.is c.write_all.ensures

pub returns-in-UnknownCommand : goal.returns-in-UnknownCommand
returns-in-UnknownCommand g c = rw c.in-UnknownCommand.is c.write_all-in-UnknownCommand.ensures

pub returns-in-UnknownOption : goal.returns-in-UnknownOption
returns-in-UnknownOption g c = rw c.in-UnknownOption.is c.write_placed.ensures

pub returns-in-Repeated : goal.returns-in-Repeated
returns-in-Repeated g c = rw c.in-Repeated.is c.write_placed-in-Repeated.ensures

pub returns-in-NoValue : goal.returns-in-NoValue
returns-in-NoValue g c = rw c.in-NoValue.is c.write_placed-in-NoValue.ensures

pub returns-in-BadNumber : goal.returns-in-BadNumber
returns-in-BadNumber g c = rw c.in-BadNumber.is c.write_placed-in-BadNumber.ensures

pub returns-in-OutOfRange : goal.returns-in-OutOfRange
returns-in-OutOfRange g c = rw c.in-OutOfRange.is c.write_placed-in-OutOfRange.ensures

pub returns-in-Missing : goal.returns-in-Missing
returns-in-Missing g c = rw c.in-Missing.is (rw (← c.option_name.ensures) c.write_missing.ensures)
