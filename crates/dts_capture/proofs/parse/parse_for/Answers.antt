use Rattle.std.proofs.Common.{sym}
use Rattle.dts_capture.proofs.TextLaws.{parsed_line, parsed_fault}
use Rattle.dts_capture.proofs.parse.parse_for.Goals as goal

pub returns-clause-found : goal.returns-clause-found
returns-clause-found c = parsed_line c.args.current c.args.line.now c.any_line.result c.if-line-gt-MAX_LINE.false (sym c.if-is_blank.ensures) (rw c.new.ensures at c.any_line.ensures)

pub returns-clause-first_wrong : goal.returns-clause-first_wrong
returns-clause-first_wrong c = parsed_fault c.args.current c.args.line.now c.any_line.result c.if-line-gt-MAX_LINE.false (sym c.if-is_blank.ensures) (rw c.new.ensures at c.any_line.ensures)
