use Rattle.slew_clock.proofs.ReadingLaws.{reading_holds}
use Rattle.slew_clock.proofs.laws.readings_hold_true_time.Goals as goal

pub returns : goal.returns
returns c = λ r rec o i a then time is from to elapsed specified. reading_holds r rec o i a then time is specified from to elapsed
