-- What the readers of texts answer, field by field: the value, or a fault. For the contracts of private functions and for proofs: no public clause reaches it.
use Rattle.std.specs.Prelude.{◌≡◌, ℕ, ◌+◌, ◌*◌, ◌^◌, ◌==◌, nat_le, nat_lt, Bool, true, false, if◌then◌else◌, List, [], ◌∷◌, length, Option, Some, None, Result, Ok, Err, ℤ, pos}
use Rattle.jiff_core.specs.Calendar.{days_in_month}
use Rattle.utc_text.specs.declared.fault.TextField.{TextField}
use Rattle.utc_text.specs.declared.fault.TextField.TheVariants.{Year, Month, Day, Days, Hour, Minute, Second, Fraction, TdfHour, TdfMinute, Inaccuracy, Tail}
use Rattle.utc_text.specs.declared.fault.TextFault.{TextFault}
use Rattle.utc_text.specs.declared.calendar.Civil.{Civil}
use Rattle.utc_value.specs.Stamp.{Stamp, absolute_stamp, relative_stamp}
use Rattle.utc_text.specs.Civil.{clock_units}
use Rattle.utc_text.specs.Grammar.{YearMonthDay, signed}
use Rattle.utc_text.specs.FirstWrong.{fault_at}
use Rattle.utc_text.specs.Texts.{utc_count}
use Rattle.utc_text.specs.Fields.{part_at, year_at, fraction_at, tdf_hour_at, inaccuracy_at, days_at}

infixl 10 ◌>>=◌
abbrev pub ◌>>=◌ : {A B : Type 0} → Result A TextFault → (A → Result B TextFault) → Result B TextFault
(Ok x) >>= f = f x
(Err e) >>= f = Err e

-- what the field is, or the fault that it is not right
unfoldable pub right_at : {A : Type 0} → List ℕ → TextField → List ℕ → Option A → Result A TextFault
right_at text field left None = Err (fault_at text field left)
right_at text field left (Some x) = Ok x

unfoldable pub date_of : List ℕ → List ℕ → Result (YearMonthDay × List ℕ) TextFault
date_of text left = do
  year ← right_at text Year left (year_at left)
  month ← right_at text Month year.1 (part_at 45 1 12 year.1)
  day ← right_at text Day month.1 (part_at 45 1 (days_in_month (pos year.0) month.0) month.1)
  Ok (record { year = year.0; month = month.0; day = day.0 }, day.1)

-- a time of day
pub record Clock : Type 0 where
  pub hour : ℕ
  pub minute : ℕ
  pub second : ℕ
  pub units : ℕ

unfoldable pub clock_of : List ℕ → List ℕ → Result (Clock × List ℕ) TextFault
clock_of text left = do
  hour ← right_at text Hour left (part_at 45 0 23 left)
  minute ← right_at text Minute hour.1 (part_at 58 0 59 hour.1)
  second ← right_at text Second minute.1 (part_at 58 0 59 minute.1)
  units ← right_at text Fraction second.1 (fraction_at second.1)
  Ok (record { hour = hour.0; minute = minute.0; second = second.0; units = units.0 }, units.1)

-- the minutes behind a sign and hours, which have to stand there
unfoldable pub tdf_minute_of : List ℕ → List ℕ → Option (Bool × ℕ) → Result (ℤ × List ℕ) TextFault
tdf_minute_of text left None = Ok (pos 0, left)
tdf_minute_of text left (Some hour) = do
  minute ← right_at text TdfMinute left (part_at 58 0 59 left)
  Ok (signed hour.0 (hour.1 * 60 + minute.0), minute.1)

-- a time differential factor in minutes, 0 where none stands there
unfoldable pub tdf_of : List ℕ → List ℕ → Result (ℤ × List ℕ) TextFault
tdf_of text left = do
  hour ← right_at text TdfHour left (tdf_hour_at left)
  tdf_minute_of text hour.1 hour.0

-- an inaccuracy, and nothing behind it
unfoldable pub end_of : List ℕ → List ℕ → Result (Option ℕ) TextFault
end_of text left = do
  inaccuracy ← right_at text Inaccuracy left (inaccuracy_at left)
  if length inaccuracy.1 == 0 then Ok inaccuracy.0 else Err (fault_at text Tail inaccuracy.1)

-- what an absolute text says
pub record Moment : Type 0 where
  pub civil : Civil
  pub tdf : ℤ
  pub inaccuracy : Option ℕ

abbrev pub civil_of : YearMonthDay → Clock → Civil
civil_of date clock = record { year = pos date.year; month = date.month; day = date.day; hour = clock.hour; minute = clock.minute; second = clock.second; units = clock.units }

unfoldable pub moment_of : List ℕ → Result Moment TextFault
moment_of text = do
  date ← date_of text text
  clock ← clock_of text date.1
  tdf ← tdf_of text clock.1
  inaccuracy ← end_of text tdf.1
  Ok (record { civil = civil_of date.0 clock.0; tdf = tdf.0; inaccuracy = inaccuracy })

-- what a relative text says
pub record Length : Type 0 where
  pub time : ℤ
  pub inaccuracy : Option ℕ

-- whether a `-` stands there, and what is left behind it
unfoldable pub sign_at : List ℕ → Bool × List ℕ
sign_at [] = (false, [])
sign_at (first ∷ rest) = if first == 45 then (true, rest) else (false, first ∷ rest)

-- a number of units fits the time of a timestamp, 64 bits with a sign
abbrev pub fits_time : Bool → ℕ → Bool
fits_time false units = nat_lt units (2 ^ 63)
fits_time true units = nat_le units (2 ^ 63)

unfoldable pub time_of : List ℕ → Bool → List ℕ → Result (ℤ × List ℕ) TextFault
time_of text negative left = do
  days ← right_at text Days left (days_at left)
  clock ← clock_of text days.1
  if fits_time negative (days.0 * 864_000_000_000 + clock_units clock.0.hour clock.0.minute clock.0.second clock.0.units)
      then Ok (signed negative (days.0 * 864_000_000_000 + clock_units clock.0.hour clock.0.minute clock.0.second clock.0.units), clock.1)
      else Err (fault_at text Days left)

unfoldable pub length_of : List ℕ → Result Length TextFault
length_of text = do
  time ← time_of text (sign_at text).0 (sign_at text).1
  inaccuracy ← end_of text time.1
  Ok (record { time = time.0; inaccuracy = inaccuracy })

-- the timestamp of what an absolute text says: its civil time is local
abbrev pub moment_stamp : Moment → Stamp
moment_stamp m = absolute_stamp (utc_count m.civil m.tdf) m.inaccuracy m.tdf

unfoldable pub absolute_of : List ℕ → Result Stamp TextFault
absolute_of text = moment_of text >>= λ m. Ok (moment_stamp m)

-- the timestamp of what a relative text says
abbrev pub length_stamp : Length → Stamp
length_stamp l = relative_stamp l.time l.inaccuracy

unfoldable pub relative_of : List ℕ → Result Stamp TextFault
relative_of text = length_of text >>= λ l. Ok (length_stamp l)

-- what a reader of the code answers is what the definition gives, with each slice seen as its octets
abbrev pub GivesText : {X Y : Type 0} → (X → Y) → Result X TextFault → Result Y TextFault → Type 0
GivesText view (Ok x) read = read ≡ Ok (view x)
GivesText view (Err e) read = read ≡ Err e
