use Rattle.clerk.proofs.Outcomes.{too_few}
use Rattle.clerk.proofs.laws.own_interval_is_no_answer.Goals as goal

pub returns : goal.returns
returns c = too_few
