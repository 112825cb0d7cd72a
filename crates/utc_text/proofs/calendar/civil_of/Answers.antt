use Rattle.std.proofs.Common.{◌≡◌, refl, arith, pos, to_z, of_z, w64, unsigned_abs}
use mir.Syntax.{w128}
use Rattle.jiff_core.proofs.SignedLemmas.{signed_arith, signed_casts}
use Rattle.jiff_core.proofs.CalendarLemmas.{days_in_month_bounds}
use Rattle.utc_text.proofs.CivilLemmas.{day_number-1582, day_number-10000, civil_from}
use Rattle.utc_text.proofs.calendar.civil_of.Goals as goal
use Rattle.utc_text.proofs.calendar.civil_of.Goals.{then-day-lt-FIRST_DAY-via-then-day-lt-FIRST_DAY, then-day-lt-FIRST_DAY-via-else-day-lt-FIRST_DAY+then-day-ge-END_DAY}

pub returns-then-day-lt-FIRST_DAY : goal.returns-then-day-lt-FIRST_DAY
returns-then-day-lt-FIRST_DAY c = λ h. elim c.then-day-lt-FIRST_DAY.branch [
  | then-day-lt-FIRST_DAY-via-then-day-lt-FIRST_DAY w ↦ omega (arith, signed_arith, c.div_euclid-day.ensures, h.0, day_number-1582)
  | then-day-lt-FIRST_DAY-via-else-day-lt-FIRST_DAY+then-day-ge-END_DAY w ↦ omega (arith, signed_arith, c.div_euclid-day.ensures, h.1, day_number-10000)
]

pub date_of_day-date-requires : goal.date_of_day-date-requires
date_of_day-date-requires c = (omega (arith, signed_arith, day_number-1582), omega (arith, signed_arith, day_number-10000))

pub returns : goal.returns
returns c =
    let units = unsigned_abs (to_z w128 (of_z w128 c.rem_euclid-units.result)) in
    let rem : c.rem_euclid-units.result ≡ pos units = omega (arith, signed_arith, c.rem_euclid-units.ensures.lower_bound, c.rem_euclid-units.ensures.upper_bound) in
    civil_from c.date_of_day-date.result c.args.count (to_z w64 (of_z w64 (to_z w128 (of_z w128 c.div_euclid-day.result)))) units _ c.date_of_day-date.ensures.year c.date_of_day-date.ensures.day
    (omega (arith, signed_arith, rem, c.rem_euclid-units.ensures.value, c.div_euclid-day.ensures)) (omega (arith, signed_arith, rem, c.rem_euclid-units.ensures.upper_bound))
    (omega (arith, signed_arith, c.year.ensures)) (omega (arith, signed_casts, c.month.ensures)) (omega (arith, signed_casts, c.day.ensures, days_in_month_bounds c.date_of_day-date.result.year c.date_of_day-date.result.month)) refl refl refl refl
