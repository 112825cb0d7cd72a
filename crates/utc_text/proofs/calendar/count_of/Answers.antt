use Rattle.std.proofs.Common.{◌≡◌, ◌∙◌, refl, arith}
use Rattle.jiff_core.proofs.SignedLemmas.{signed_casts, signed_arith}
use Rattle.jiff_core.proofs.CalendarLemmas.{days_in_month_bounds}
use Rattle.jiff_core.proofs.DateLemmas.{epoch_day_range}
use Rattle.utc_text.specs.Civil.{midnight_count}
use Rattle.utc_text.proofs.calendar.count_of.Goals as goal

pub overflow_add-result-2 : goal.overflow_add-result-2
overflow_add-result-2 c = omega (arith, signed_arith, c.count_of_midnight-midnight.ensures, c.from.ensures, c.from-2.ensures, c.from-3.ensures, c.from-4.ensures, epoch_day_range c.date.result)

pub returns : goal.returns
returns c =
    let long = days_in_month_bounds c.args.c.year c.args.c.month in
    let y : c.date.result.year ≡ c.args.c.year = omega (arith, signed_arith, c.date.ensures.0) in
    let m : c.date.result.month ≡ c.args.c.month = omega (arith, signed_casts, c.date.ensures.1) in
    let d : c.date.result.day ≡ c.args.c.day = omega (arith, signed_casts, c.date.ensures.2) in
    let midnight : c.count_of_midnight-midnight.result ≡ midnight_count c.args.c.year c.args.c.month c.args.c.day = c.count_of_midnight-midnight.ensures ∙ rw (y, m, d) refl in
    omega (arith, signed_arith, midnight, c.count_of_midnight-midnight.ensures, c.from.ensures, c.from-2.ensures, c.from-3.ensures, c.from-4.ensures, epoch_day_range c.date.result)
