use Rattle.line_filter.proofs.Settling.{not_refused_valid}
use Rattle.line_filter.proofs.laws.valid_input_is_not_refused.Goals as goal

pub returns : goal.returns
returns g c = λ exclusive from octets left text other n cause. not_refused_valid g.F.LineFilter.rules exclusive from octets left text other n cause
