-- How fields are put together to whole texts, for the contracts of private functions and for proofs: no public clause reaches it.
use Rattle.std.specs.Prelude.{ℕ, ◌/◌, ◌%◌, ◌≤◌, ◌==◌, ◌||◌, Bool, true, false, if◌then◌else◌, List, [], ◌∷◌, ◌++◌, Option, Some, None, ℤ, pos, unsigned_abs, int_lt, FitsSigned}
use Rattle.std.specs.Int.{IsInRange, w64}
use Rattle.jiff_core.specs.Calendar.{days_in_month}
use Rattle.utc_text.specs.declared.units.TheConstants.{SECOND, MINUTE, DAY, HOUR}
use Rattle.utc_text.specs.declared.calendar.TheConstants.{FIRST_YEAR, LAST_YEAR}
use Rattle.utc_text.specs.Grammar.{plus, dash, colon, digits, BeginsNot, YearMonthDay, ClockField, fraction_text, IsFraction, fraction_units, TdfField, tdf_said, inaccuracy_text, IsInaccuracyField, inaccuracy_said, AbsoluteFields, IsDaysField, RelativeFields, relative_time}
use Rattle.utc_text.specs.Reading.{Clock, Moment, Length, civil_of}
use Rattle.utc_text.specs.Printing.{clock_shown, relative_shown}

-- a date
abbrev pub date_text : YearMonthDay → List ℕ
date_text d = digits 4 d.year ++ dash ∷ digits 2 d.month ++ dash ∷ digits 2 d.day

pub record IsDateField (d : YearMonthDay) : Type 0 where
  pub year : IsInRange FIRST_YEAR LAST_YEAR d.year
  pub month : IsInRange 1 12 d.month
  pub day : IsInRange 1 (days_in_month (pos d.year) d.month) d.day

-- a time of day
abbrev pub clock_text : ClockField → List ℕ
clock_text c = dash ∷ digits 2 c.hour ++ colon ∷ digits 2 c.minute ++ colon ∷ digits 2 c.second ++ fraction_text c.fraction

pub record IsClockField (c : ClockField) : Type 0 where
  pub hour : c.hour ≤ 23
  pub minute : c.minute ≤ 59
  pub second : c.second ≤ 59
  pub fraction : IsFraction c.fraction

abbrev pub clock_said : ClockField → Clock
clock_said c = record { hour = c.hour; minute = c.minute; second = c.second; units = fraction_units c.fraction }

-- a time differential factor
abbrev pub tdf_text : Option TdfField → List ℕ
tdf_text None = []
tdf_text (Some t) = (if t.west then dash else plus) ∷ digits 2 t.hours ++ colon ∷ digits 2 t.minutes

abbrev pub IsTdfField : Option TdfField → Type 0
IsTdfField None = Unit {0}
IsTdfField (Some t) = (t.hours ≤ 23) × (t.minutes ≤ 59)

-- what may not follow a factor, and a sign, that are left out
abbrev pub EndsTdf : Option TdfField → List ℕ → Type 0
EndsTdf None rest = BeginsNot (λ octet. (octet == plus) || (octet == dash)) rest
EndsTdf (Some t) rest = Unit {0}

abbrev pub EndsSign : Bool → List ℕ → Type 0
EndsSign true rest = Unit {0}
EndsSign false rest = BeginsNot (λ octet. octet == dash) rest

-- an absolute text
abbrev pub absolute_text : AbsoluteFields → List ℕ
absolute_text f = date_text f.date ++ clock_text f.clock ++ tdf_text f.tdf ++ inaccuracy_text f.inaccuracy

pub record IsAbsolute (f : AbsoluteFields) : Type 0 where
  pub date : IsDateField f.date
  pub clock : IsClockField f.clock
  pub tdf : IsTdfField f.tdf
  pub inaccuracy : IsInaccuracyField f.inaccuracy

abbrev pub absolute_said : AbsoluteFields → Moment
absolute_said f = record { civil = civil_of f.date (clock_said f.clock); tdf = tdf_said f.tdf; inaccuracy = inaccuracy_said f.inaccuracy }

-- a relative text
abbrev pub sign_text : Bool → List ℕ
sign_text negative = if negative then dash ∷ [] else []

abbrev pub relative_text : RelativeFields → List ℕ
relative_text f = sign_text f.negative ++ f.days ++ clock_text f.clock ++ inaccuracy_text f.inaccuracy

pub record IsRelative (f : RelativeFields) : Type 0 where
  pub days : IsDaysField f.days
  pub clock : IsClockField f.clock
  pub time : FitsSigned w64 (relative_time f)
  pub inaccuracy : IsInaccuracyField f.inaccuracy

abbrev pub relative_said : RelativeFields → Length
relative_said f = record { time = relative_time f; inaccuracy = inaccuracy_said f.inaccuracy }

-- the fields of a length of time, by division
abbrev pub relative_divided : ℤ → Option ℕ → RelativeFields
relative_divided time inaccuracy = relative_shown (int_lt time (pos 0)) (unsigned_abs time / DAY)
    (clock_shown (unsigned_abs time / HOUR % 24) (unsigned_abs time / MINUTE % 60) (unsigned_abs time / SECOND % 60) (unsigned_abs time % SECOND)) inaccuracy
