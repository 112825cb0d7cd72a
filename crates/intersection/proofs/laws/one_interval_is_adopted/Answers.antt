use Rattle.intersection.proofs.AdoptionLaws.{adopted_unique, adopted_ordered, none_of_none, adopted_is}
use Rattle.intersection.proofs.laws.one_interval_is_adopted.Goals as goal

pub returns : goal.returns
returns c = record { one = adopted_unique; ordered = adopted_ordered; none = λ s i f none. none i.0 f.least.0; of_none = none_of_none; found = adopted_is }
