use Rattle.slew_clock.proofs.ElapsedLaws.{may_elapse, may_not_elapse}
use Rattle.slew_clock.proofs.laws.elapsed_time_has_bounds.Goals as goal

pub returns : goal.returns
returns c = record { within = may_elapse; outside = may_not_elapse }
