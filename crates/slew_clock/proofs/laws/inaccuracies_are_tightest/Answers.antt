use Rattle.slew_clock.proofs.ReadingLaws.{reading_contains, reading_tightest, reading_unspecified}
use Rattle.slew_clock.proofs.laws.inaccuracies_are_tightest.Goals as goal

pub returns : goal.returns
returns c = record { holds = reading_contains; least = reading_tightest; unspecified = reading_unspecified }
