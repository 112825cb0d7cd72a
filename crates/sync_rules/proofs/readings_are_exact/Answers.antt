use Rattle.sync_rules.proofs.Exact.{contains_up_to_inaccuracy, does_not_follow_on}
use Rattle.sync_rules.proofs.readings_are_exact.Goals as goal

pub returns : goal.returns
returns c = record { contain = contains_up_to_inaccuracy; follow = does_not_follow_on }
