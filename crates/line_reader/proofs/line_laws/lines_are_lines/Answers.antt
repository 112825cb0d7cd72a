use Rattle.line_reader.proofs.LineFacts.{lines_of-are_lines}
use Rattle.line_reader.proofs.line_laws.lines_are_lines.Goals as goal

pub returns : goal.returns
returns c = lines_of-are_lines
