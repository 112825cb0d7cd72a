use Rattle.slew_clock.proofs.ClockLaws.{next-number, next-born, next-step}
use Rattle.slew_clock.proofs.laws.next_records_count_up.Goals as goal

pub returns : goal.returns
returns c = record { number = next-number; born = next-born; step = next-step }
