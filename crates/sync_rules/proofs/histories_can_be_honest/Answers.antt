use Rattle.sync_rules.proofs.Honest.{can_be_honest}
use Rattle.sync_rules.proofs.histories_can_be_honest.Goals as goal

pub returns : goal.returns
returns c = can_be_honest
