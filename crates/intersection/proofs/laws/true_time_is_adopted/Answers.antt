use Rattle.intersection.proofs.AdoptionLaws.{adopted_exists, adopted_holds}
use Rattle.intersection.proofs.laws.true_time_is_adopted.Goals as goal

pub returns : goal.returns
returns c = record { exists = adopted_exists; holds = adopted_holds }
