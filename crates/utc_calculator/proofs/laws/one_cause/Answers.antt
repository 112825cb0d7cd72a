use Rattle.utc_calculator.proofs.OneCause.{one_cause}
use Rattle.utc_calculator.proofs.laws.one_cause.Goals as goal

pub returns : goal.returns
returns c = one_cause
