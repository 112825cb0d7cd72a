use Rattle.std.proofs.Common.{◌++◌, ap, ◌∙◌}
use Rattle.line_reader.proofs.LineFacts.{lines_of-joined, lines_of-rest, whole_lines-joined}
use Rattle.line_reader.proofs.line_laws.lines_of_joined.Goals as goal

pub returns-clause-lines : goal.returns-clause-lines
returns-clause-lines c = λ lines rest are is. lines_of-joined lines rest are ∙ ap (λ ls. lines ++ ls) (lines_of-rest rest is)

pub returns-clause-whole : goal.returns-clause-whole
returns-clause-whole c = whole_lines-joined
