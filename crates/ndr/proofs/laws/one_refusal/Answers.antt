use Rattle.ndr.proofs.Refusals.{first_wrong}
use Rattle.ndr.proofs.laws.one_refusal.Goals as goal

pub returns : goal.returns
returns c = first_wrong
