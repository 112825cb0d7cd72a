use Rattle.utc_order.proofs.OrderFacts.{keeps_hosts}
use Rattle.utc_order.proofs.laws.lines_of_a_host_keep_their_order.Goals as goal

pub returns : goal.returns
returns c = keeps_hosts
