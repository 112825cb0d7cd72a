use Rattle.std.proofs.Common.{arith}
use Rattle.jiff_core.proofs.SignedLemmas.{signed_arith}
use Rattle.utc_text.proofs.CivilLemmas.{day_number-1582, day_number-10000, in_years}
use Rattle.utc_text.proofs.dates.count_in_utc.Goals as goal

pub overflow_sub-result : goal.overflow_sub-result
overflow_sub-result c = omega (arith, signed_arith, in_years c.args.c c.requires, day_number-1582, day_number-10000, c.count_of.ensures, c.from.ensures)

pub overflow_cast-result : goal.overflow_cast-result
overflow_cast-result c = omega (arith, signed_arith, in_years c.args.c c.requires, day_number-1582, day_number-10000, c.count_of.ensures, c.from.ensures)

pub returns : goal.returns
returns c = omega (arith, signed_arith, in_years c.args.c c.requires, day_number-1582, day_number-10000, c.count_of.ensures, c.from.ensures)
