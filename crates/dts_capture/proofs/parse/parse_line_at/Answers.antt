use Rattle.std.proofs.Common.{Some}
use Rattle.dts_capture.proofs.TextLaws.{only_line, only_fault}
use Rattle.dts_capture.proofs.parse.parse_line_at.Goals as goal

pub returns-clause-only : goal.returns-clause-only
returns-clause-only c = only_line (Some c.args.current) c.args.line.now c.parse_for.result c.parse_for.ensures.found c.parse_for.ensures.first_wrong

pub returns-clause-only_wrong : goal.returns-clause-only_wrong
returns-clause-only_wrong c = only_fault (Some c.args.current) c.args.line.now c.parse_for.result c.parse_for.ensures.found c.parse_for.ensures.first_wrong
