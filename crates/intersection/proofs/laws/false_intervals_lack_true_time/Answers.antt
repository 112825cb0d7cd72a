use Rattle.intersection.proofs.AdoptionLaws.{apart_lacks}
use Rattle.intersection.proofs.laws.false_intervals_lack_true_time.Goals as goal

pub returns : goal.returns
returns c = apart_lacks
