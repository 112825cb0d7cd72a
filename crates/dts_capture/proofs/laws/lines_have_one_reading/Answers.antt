use Rattle.dts_capture.proofs.EachLine.{each_line}
use Rattle.dts_capture.proofs.TextLaws.{one_line, spelled_or_wrong, one_wrong_place}
use Rattle.dts_capture.proofs.laws.lines_have_one_reading.Goals as goal

pub returns-clause-total : goal.returns-clause-total
returns-clause-total c = each_line

pub returns-clause-line : goal.returns-clause-line
returns-clause-line c = one_line

pub returns-clause-excluded : goal.returns-clause-excluded
returns-clause-excluded c = spelled_or_wrong

pub returns-clause-fault : goal.returns-clause-fault
returns-clause-fault c = one_wrong_place
