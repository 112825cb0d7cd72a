use Rattle.utc_order.proofs.CertainFacts.{certain_below, below_certain}
use Rattle.utc_order.proofs.laws.certainly_earlier_is_below_as_an_interval.Goals as goal

pub returns : goal.returns
returns c = λ a b. (certain_below a b, below_certain a b)
