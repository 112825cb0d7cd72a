use Rattle.std.proofs.Common.{arith}
use Rattle.jiff_core.proofs.SignedLemmas.{signed_arith}
use Rattle.jiff_core.proofs.DateLemmas.{epoch_day_range}
use Rattle.utc_text.proofs.CivilLemmas.{epoch_day-1970}
use Rattle.utc_text.proofs.calendar.count_of_midnight.Goals as goal

pub returns : goal.returns
returns c = omega (arith, signed_arith, epoch_day-1970 c.date.result c.date.ensures, c.as_nanos.ensures.value, c.duration_since.ensures, epoch_day_range c.args.day)
