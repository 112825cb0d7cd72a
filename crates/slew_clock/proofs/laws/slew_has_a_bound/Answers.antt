use Rattle.slew_clock.proofs.PaceLaws.{slew_bound}
use Rattle.slew_clock.proofs.laws.slew_has_a_bound.Goals as goal

pub returns : goal.returns
returns c = λ r records i j o p earlier later. slew_bound r records i j earlier later o p
