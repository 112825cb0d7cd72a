use Rattle.dts_capture.proofs.AnyRecord.{any_record}
use Rattle.dts_capture.proofs.Lengths.{fits}
use Rattle.dts_capture.proofs.LineTexts.{spelled, spelled_only, printed_cut, printed_is_line}
use Rattle.dts_capture.proofs.laws.lines_can_be_spelled.Goals as goal

pub returns-clause-spelled : goal.returns-clause-spelled
returns-clause-spelled c = spelled

pub returns-clause-only : goal.returns-clause-only
returns-clause-only c = spelled_only

pub returns-clause-fits : goal.returns-clause-fits
returns-clause-fits c = fits

pub returns-clause-any_record : goal.returns-clause-any_record
returns-clause-any_record c = any_record

pub returns-clause-fields : goal.returns-clause-fields
returns-clause-fields c = printed_cut

pub returns-clause-is_line : goal.returns-clause-is_line
returns-clause-is_line c = printed_is_line
