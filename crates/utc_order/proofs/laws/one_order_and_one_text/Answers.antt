use Rattle.utc_order.proofs.UniqueFacts.{one_order, one_text}
use Rattle.utc_order.proofs.laws.one_order_and_one_text.Goals as goal

pub returns-clause-order : goal.returns-clause-order
returns-clause-order c = one_order

pub returns-clause-text : goal.returns-clause-text
returns-clause-text c = one_text
