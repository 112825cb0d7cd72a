use Rattle.utc_order.proofs.CauseFacts.{one_refusal}
use Rattle.utc_order.proofs.laws.one_refused_line.Goals as goal

pub returns : goal.returns
returns c = one_refusal
