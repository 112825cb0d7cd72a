-- The texts that are printed: those of fields none of which is left out.
use Rattle.std.specs.Prelude.{◌≡◌, ℕ, ◌+◌, ◌*◌, ◌/◌, ◌%◌, ◌<◌, nat_lt, if◌then◌else◌, Bool, List, [], ◌∷◌, Option, Some, None, ℤ, pos, unsigned_abs, int_lt}
use Rattle.std.specs.Fmt.{decimal}
use Rattle.utc_text.specs.declared.units.TheConstants.{SECOND, DAY}
use Rattle.utc_text.specs.declared.calendar.Civil.{Civil}
use Rattle.utc_text.specs.Civil.{IsCivil, civil_count, clock_units, local_count}
use Rattle.utc_text.specs.Grammar.{Stand, digits, nought, ClockField, TdfField, InaccuracyField, Dashes, Seconds, AbsoluteFields, AbsoluteStands, absolute_order, RelativeFields, RelativeStands, relative_order}

-- a time of day, with seven digits behind the point
abbrev pub clock_shown : ℕ → ℕ → ℕ → ℕ → ClockField
clock_shown hour minute second units = record { hour = hour; minute = minute; second = second; fraction = Some (digits 7 units) }

-- the minutes from UTC, with `+` where they are 0
abbrev pub tdf_shown : ℤ → TdfField
tdf_shown tdf = record { west = int_lt tdf (pos 0); hours = unsigned_abs tdf / 60; minutes = unsigned_abs tdf % 60 }

-- `I-----`, or the seconds with no leading zero and seven digits behind the point
abbrev pub inaccuracy_shown : Option ℕ → InaccuracyField
inaccuracy_shown None = Dashes
inaccuracy_shown (Some units) = Seconds (decimal (units / SECOND)) (Some (digits 7 (units % SECOND)))

abbrev pub absolute_shown : Civil → ℤ → Option ℕ → AbsoluteFields
absolute_shown c tdf inaccuracy = record {
  date = record { year = unsigned_abs c.year; month = c.month; day = c.day };
  clock = clock_shown c.hour c.minute c.second c.units;
  tdf = Some (tdf_shown tdf);
  inaccuracy = inaccuracy_shown inaccuracy;
}

-- the text of a moment at a time differential factor: that of the civil time there
pub record IsShown (time tdf : ℤ) (inaccuracy : Option ℕ) (text : List ℕ) : Type 0 where
  pub civil : Civil
  pub is_civil : IsCivil civil
  pub count : civil_count civil ≡ local_count time tdf
  pub spelled : Stand AbsoluteStands absolute_order (absolute_shown civil tdf inaccuracy) text []

-- a number with no leading zero, but with at least two digits
abbrev pub days_shown : ℕ → List ℕ
days_shown days = if nat_lt days 10 then nought ∷ decimal days else decimal days

abbrev pub relative_shown : Bool → ℕ → ClockField → Option ℕ → RelativeFields
relative_shown negative days clock inaccuracy = record { negative = negative; days = days_shown days; clock = clock; inaccuracy = inaccuracy_shown inaccuracy }

-- the text of a length of time: that of the days and the time of day that it is long, with a sign where it is below 0
pub record IsLengthShown (time : ℤ) (inaccuracy : Option ℕ) (text : List ℕ) : Type 0 where
  pub days : ℕ
  pub hour : ℕ
  pub minute : ℕ
  pub second : ℕ
  pub units : ℕ
  pub less : units < SECOND
  pub length : days * DAY + clock_units hour minute second units ≡ unsigned_abs time
  pub spelled : Stand RelativeStands relative_order (relative_shown (int_lt time (pos 0)) days (clock_shown hour minute second units) inaccuracy) text []
