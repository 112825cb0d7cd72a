use Rattle.utc_order.proofs.UniqueFacts.{not_both}
use Rattle.utc_order.proofs.laws.no_input_is_ordered_and_refused.Goals as goal

pub returns : goal.returns
returns c = not_both
