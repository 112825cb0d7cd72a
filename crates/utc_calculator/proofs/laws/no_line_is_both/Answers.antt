use Rattle.utc_calculator.proofs.Exclusive.{not_both}
use Rattle.utc_calculator.proofs.laws.no_line_is_both.Goals as goal

pub returns : goal.returns
returns c = not_both
