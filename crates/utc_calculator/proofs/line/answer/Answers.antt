use Rattle.utc_calculator.proofs.AnswerFacts.{showing_refused}
use Rattle.utc_calculator.proofs.line.answer.Goals as goal

pub returns-in-Ok-clause-refused : goal.returns-in-Ok-clause-refused
returns-in-Ok-clause-refused c = showing_refused c.args.line.now c.in-Ok.outcome c.line_of.result c.map_err.result c.in-Ok.ensures.ok c.line_of.ensures.err c.map_err.ensures.cases
