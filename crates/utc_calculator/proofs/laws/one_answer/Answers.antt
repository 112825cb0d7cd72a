use Rattle.utc_calculator.proofs.Exclusive.{one_answer}
use Rattle.utc_calculator.proofs.laws.one_answer.Goals as goal

pub returns : goal.returns
returns c = one_answer
