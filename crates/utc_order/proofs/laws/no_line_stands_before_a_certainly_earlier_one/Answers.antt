use Rattle.utc_order.proofs.OrderFacts.{keeps_times}
use Rattle.utc_order.proofs.laws.no_line_stands_before_a_certainly_earlier_one.Goals as goal

pub returns : goal.returns
returns c = keeps_times
