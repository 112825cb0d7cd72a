use Rattle.line_reader.proofs.JoinFacts.{is_joined}
use Rattle.line_reader.proofs.line_laws.lines_join.Goals as goal

pub returns : goal.returns
returns c = is_joined
