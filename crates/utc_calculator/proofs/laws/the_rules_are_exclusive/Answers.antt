use Rattle.utc_calculator.proofs.Settled.{exclusive}
use Rattle.utc_calculator.proofs.laws.the_rules_are_exclusive.Goals as goal

pub returns : goal.returns
returns c = exclusive
