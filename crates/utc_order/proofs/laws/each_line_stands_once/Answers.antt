use Rattle.utc_order.proofs.OrderFacts.{stands_once}
use Rattle.utc_order.proofs.laws.each_line_stands_once.Goals as goal

pub returns : goal.returns
returns c = stands_once
