-- Civil times of the Gregorian calendar, carried back to 1582-01-01, and their counts in units of 100 ns.
use Rattle.std.specs.Prelude.{ℕ, ◌+◌, ◌*◌, ◌<◌, ℤ, pos, ◌+ℤ◌, ◌*ℤ◌, ◌<ℤ◌, ◌≤ℤ◌}
use Rattle.std.specs.Int.{IsInRange}
use Rattle.jiff_core.specs.Calendar.{IsBetween, days_in_month, days_from_civil}
use Rattle.utc_text.specs.declared.calendar.Civil.{Civil}
use Rattle.utc_text.specs.declared.calendar.TheConstants.{FIRST_YEAR, LAST_YEAR}
use Rattle.utc_text.specs.declared.units.TheConstants.{SECOND, MINUTE, DAY}

-- the days from 1582-10-15, the first day of the Gregorian calendar (C310), to a date; jiff counts from 1970-01-01
abbrev pub day_number : ℤ → ℕ → ℕ → ℤ
day_number year month day = days_from_civil year month day +ℤ pos 141_427

-- the units from midnight to a time of day
abbrev pub clock_units : ℕ → ℕ → ℕ → ℕ → ℕ
clock_units hour minute second units = ((hour * 60 + minute) * 60 + second) * SECOND + units

abbrev pub time_of_day : Civil → ℕ
time_of_day c = clock_units c.hour c.minute c.second c.units

-- the units from the first midnight of a date
abbrev pub midnight_count : ℤ → ℕ → ℕ → ℤ
midnight_count year month day = day_number year month day *ℤ pos DAY

-- the units from 1582-10-15 00:00:00 to a civil time, both by one clock
abbrev pub civil_count : Civil → ℤ
civil_count c = midnight_count c.year c.month c.day +ℤ pos (time_of_day c)

-- what a clock shows that many minutes ahead of UTC
abbrev pub local_count : ℤ → ℤ → ℤ
local_count time tdf = time +ℤ (tdf *ℤ pos MINUTE)

-- a year that is written
abbrev pub IsWrittenYear : ℤ → Type 0
IsWrittenYear year = IsBetween (pos FIRST_YEAR) (pos LAST_YEAR) year

-- the number of a day in those years
abbrev pub IsWrittenDay : ℤ → Type 0
IsWrittenDay day = (day_number (pos FIRST_YEAR) 1 1 ≤ℤ day) × (day <ℤ day_number (pos (LAST_YEAR + 1)) 1 1)

-- a date of the years 1582 to 9999 and a time of day
pub record IsCivil (c : Civil) : Type 0 where
  pub year : IsWrittenYear c.year
  pub month : IsInRange 1 12 c.month
  pub day : IsInRange 1 (days_in_month c.year c.month) c.day
  pub hour : c.hour < 24
  pub minute : c.minute < 60
  pub second : c.second < 60
  pub units : c.units < SECOND

-- a count of the years 1582 to 9999: from the first midnight of 1582 to the first of 10000
abbrev pub IsInYears : ℤ → Type 0
IsInYears count = (midnight_count (pos FIRST_YEAR) 1 1 ≤ℤ count) × (count <ℤ midnight_count (pos (LAST_YEAR + 1)) 1 1)
