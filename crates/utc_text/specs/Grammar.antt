-- The grammar of texts of times: the fields in their order, how each of them stands in a text, and what it says. A separator belongs to the field behind it.
use Rattle.std.specs.Prelude.{◌≡◌, ℕ, zero, suc, ◌+◌, ◌-◌, ◌*◌, ◌/◌, ◌%◌, ◌^◌, ◌≤◌, ◌==◌, ◌||◌, Bool, true, false, if◌then◌else◌, List, [], ◌∷◌, ◌++◌, length, Option, Some, None, codes, ℤ, pos, neg_ℤ}
use Rattle.std.specs.Int.{IsInRange}
use Rattle.std.specs.Char.{is_ascii_digit}
use Rattle.std.specs.Str.Parse.{AllDigits, digits_value}
use Rattle.jiff_core.specs.Calendar.{days_in_month}
use Rattle.utc_value.specs.declared.TheConstants.{MAX_INACCURACY}
use Rattle.utc_text.specs.declared.units.TheConstants.{SECOND, DAY}
use Rattle.utc_text.specs.declared.calendar.TheConstants.{FIRST_YEAR, LAST_YEAR}
use Rattle.utc_text.specs.declared.fields.TheConstants.{MAX_DAYS}
use Rattle.utc_text.specs.declared.fault.TextField.{TextField}
use Rattle.utc_text.specs.declared.fault.TextField.TheVariants.{Sign, Year, Month, Day, Days, Hour, Minute, Second, Fraction, TdfHour, TdfMinute, Inaccuracy, Tail}
use Rattle.utc_text.specs.Civil.{clock_units}

abbrev pub plus : ℕ
plus = 43

abbrev pub dash : ℕ
dash = 45

abbrev pub point : ℕ
point = 46

abbrev pub nought : ℕ
nought = 48

abbrev pub colon : ℕ
colon = 58

abbrev pub letter_i : ℕ
letter_i = 73

-- the last k decimal digits of a number
unfoldable pub digits : ℕ → ℕ → List ℕ
digits zero n = []
digits (suc k) n = digits k (n / 10) ++ (nought + n % 10) ∷ []

-- a number with a sign
abbrev pub signed : Bool → ℕ → ℤ
signed false n = pos n
signed true n = neg_ℤ (pos n)

-- the octets do not begin with one of these
abbrev pub BeginsNot : (ℕ → Bool) → List ℕ → Type 0
BeginsNot test [] = Unit {0}
BeginsNot test (octet ∷ octets) = test octet ≡ false

-- A separator and two digits of a number from low to high stand there, and then the rest.
abbrev pub PartStands : ℕ → ℕ → ℕ → ℕ → List ℕ → List ℕ → Type 0
PartStands separator low high n here rest = IsInRange low high n × (here ≡ separator ∷ digits 2 n ++ rest)

-- A fraction of a second: nothing, or a point and at most seven digits. Behind nothing stands no point, and behind digits none more.
abbrev pub fraction_text : Option (List ℕ) → List ℕ
fraction_text None = []
fraction_text (Some ds) = point ∷ ds

abbrev pub IsFraction : Option (List ℕ) → Type 0
IsFraction None = Unit {0}
IsFraction (Some ds) = AllDigits 10 ds × (length ds ≤ 7)

abbrev pub EndsFraction : Option (List ℕ) → List ℕ → Type 0
EndsFraction None rest = BeginsNot (λ octet. octet == point) rest
EndsFraction (Some ds) rest = BeginsNot is_ascii_digit rest

abbrev pub FractionStands : Option (List ℕ) → List ℕ → List ℕ → Type 0
FractionStands fraction here rest = IsFraction fraction × EndsFraction fraction rest × (here ≡ fraction_text fraction ++ rest)

-- what the digits behind a point say, in units of 100 ns
abbrev pub units_of : List ℕ → ℕ
units_of ds = digits_value 10 ds * 10 ^ (7 - length ds)

abbrev pub fraction_units : Option (List ℕ) → ℕ
fraction_units None = 0
fraction_units (Some ds) = units_of ds

-- a date
pub record YearMonthDay : Type 0 where
  pub year : ℕ
  pub month : ℕ
  pub day : ℕ

-- a time of day with its fraction as it is written
pub record ClockField : Type 0 where
  pub hour : ℕ
  pub minute : ℕ
  pub second : ℕ
  pub fraction : Option (List ℕ)

-- A time differential factor: nothing, which says 0, or a sign, hours and minutes. Behind nothing stands no sign.
pub record TdfField : Type 0 where
  pub west : Bool
  pub hours : ℕ
  pub minutes : ℕ

abbrev pub TdfHourStands : Option TdfField → List ℕ → List ℕ → Type 0
TdfHourStands None here rest = BeginsNot (λ octet. (octet == plus) || (octet == dash)) rest × (here ≡ rest)
TdfHourStands (Some t) here rest = PartStands (if t.west then dash else plus) 0 23 t.hours here rest

abbrev pub TdfMinuteStands : Option TdfField → List ℕ → List ℕ → Type 0
TdfMinuteStands None here rest = here ≡ rest
TdfMinuteStands (Some t) here rest = PartStands colon 0 59 t.minutes here rest

-- the minutes ahead of UTC
abbrev pub tdf_said : Option TdfField → ℤ
tdf_said None = pos 0
tdf_said (Some t) = signed t.west (t.hours * 60 + t.minutes)

-- An inaccuracy: nothing, `I-----` and `Iinf`, which are unspecified, or `I`, one to nine digits of seconds and a fraction. Behind nothing stands no `I`.
pub data InaccuracyField : Type 0 where
  Unstated : InaccuracyField
  Dashes : InaccuracyField
  Infinite : InaccuracyField
  Seconds : List ℕ → Option (List ℕ) → InaccuracyField

abbrev pub inaccuracy_text : InaccuracyField → List ℕ
inaccuracy_text Unstated = []
inaccuracy_text Dashes = codes "I-----"
inaccuracy_text Infinite = codes "Iinf"
inaccuracy_text (Seconds ds fraction) = letter_i ∷ ds ++ fraction_text fraction

abbrev pub seconds_units : List ℕ → Option (List ℕ) → ℕ
seconds_units ds fraction = digits_value 10 ds * SECOND + fraction_units fraction

abbrev pub IsInaccuracyField : InaccuracyField → Type 0
IsInaccuracyField Unstated = Unit {0}
IsInaccuracyField Dashes = Unit {0}
IsInaccuracyField Infinite = Unit {0}
IsInaccuracyField (Seconds ds fraction) =
    AllDigits 10 ds × (1 ≤ length ds) × (length ds ≤ 9) × IsFraction fraction × (seconds_units ds fraction ≤ MAX_INACCURACY)

abbrev pub EndsInaccuracy : InaccuracyField → List ℕ → Type 0
EndsInaccuracy Unstated rest = BeginsNot (λ octet. octet == letter_i) rest
EndsInaccuracy Dashes rest = Unit {0}
EndsInaccuracy Infinite rest = Unit {0}
EndsInaccuracy (Seconds ds fraction) rest = BeginsNot is_ascii_digit (fraction_text fraction ++ rest) × EndsFraction fraction rest

abbrev pub InaccuracyStands : InaccuracyField → List ℕ → List ℕ → Type 0
InaccuracyStands i here rest = IsInaccuracyField i × EndsInaccuracy i rest × (here ≡ inaccuracy_text i ++ rest)

-- in units of 100 ns
abbrev pub inaccuracy_said : InaccuracyField → Option ℕ
inaccuracy_said Unstated = None
inaccuracy_said Dashes = None
inaccuracy_said Infinite = None
inaccuracy_said (Seconds ds fraction) = Some (seconds_units ds fraction)

-- nothing is left
abbrev pub TailStands : List ℕ → List ℕ → Type 0
TailStands here rest = (here ≡ []) × (rest ≡ [])

-- the fields of an absolute text, their order, and how each stands where it begins, so that behind it the rest is left
pub record AbsoluteFields : Type 0 where
  pub date : YearMonthDay
  pub clock : ClockField
  pub tdf : Option TdfField
  pub inaccuracy : InaccuracyField

abbrev pub absolute_order : List TextField
absolute_order = Year ∷ Month ∷ Day ∷ Hour ∷ Minute ∷ Second ∷ Fraction ∷ TdfHour ∷ TdfMinute ∷ Inaccuracy ∷ Tail ∷ []

abbrev pub AbsoluteStands : TextField → AbsoluteFields → List ℕ → List ℕ → Type 0
AbsoluteStands Year f here rest = IsInRange FIRST_YEAR LAST_YEAR f.date.year × (here ≡ digits 4 f.date.year ++ rest)
AbsoluteStands Month f here rest = PartStands dash 1 12 f.date.month here rest
AbsoluteStands Day f here rest = PartStands dash 1 (days_in_month (pos f.date.year) f.date.month) f.date.day here rest
AbsoluteStands Hour f here rest = PartStands dash 0 23 f.clock.hour here rest
AbsoluteStands Minute f here rest = PartStands colon 0 59 f.clock.minute here rest
AbsoluteStands Second f here rest = PartStands colon 0 59 f.clock.second here rest
AbsoluteStands Fraction f here rest = FractionStands f.clock.fraction here rest
AbsoluteStands TdfHour f here rest = TdfHourStands f.tdf here rest
AbsoluteStands TdfMinute f here rest = TdfMinuteStands f.tdf here rest
AbsoluteStands Inaccuracy f here rest = InaccuracyStands f.inaccuracy here rest
AbsoluteStands Tail f here rest = TailStands here rest
AbsoluteStands _ f here rest = ⊥

-- the sign of a relative text, which is that of the whole time
abbrev pub SignStands : Bool → List ℕ → List ℕ → Type 0
SignStands true here rest = here ≡ dash ∷ rest
SignStands false here rest = BeginsNot (λ octet. octet == dash) rest × (here ≡ rest)

-- its days: one to eight digits
abbrev pub IsDaysField : List ℕ → Type 0
IsDaysField ds = AllDigits 10 ds × (1 ≤ length ds) × (length ds ≤ 8) × (digits_value 10 ds ≤ MAX_DAYS)

-- the fields of a relative text
pub record RelativeFields : Type 0 where
  pub negative : Bool
  pub days : List ℕ
  pub clock : ClockField
  pub inaccuracy : InaccuracyField

abbrev pub time_order : List TextField
time_order = Sign ∷ Days ∷ Hour ∷ Minute ∷ Second ∷ Fraction ∷ []

abbrev pub relative_order : List TextField
relative_order = time_order ++ Inaccuracy ∷ Tail ∷ []

abbrev pub RelativeStands : TextField → RelativeFields → List ℕ → List ℕ → Type 0
RelativeStands Sign f here rest = SignStands f.negative here rest
RelativeStands Days f here rest = IsDaysField f.days × BeginsNot is_ascii_digit rest × (here ≡ f.days ++ rest)
RelativeStands Hour f here rest = PartStands dash 0 23 f.clock.hour here rest
RelativeStands Minute f here rest = PartStands colon 0 59 f.clock.minute here rest
RelativeStands Second f here rest = PartStands colon 0 59 f.clock.second here rest
RelativeStands Fraction f here rest = FractionStands f.clock.fraction here rest
RelativeStands Inaccuracy f here rest = InaccuracyStands f.inaccuracy here rest
RelativeStands Tail f here rest = TailStands here rest
RelativeStands _ f here rest = ⊥

-- the time of a relative text, in units of 100 ns
abbrev pub relative_units : RelativeFields → ℕ
relative_units f = digits_value 10 f.days * DAY + clock_units f.clock.hour f.clock.minute f.clock.second (fraction_units f.clock.fraction)

abbrev pub relative_time : RelativeFields → ℤ
relative_time f = signed f.negative (relative_units f)

-- fields stand one behind the other, each where the one before it ends
abbrev pub Stand : {F : Type 0} → (TextField → F → List ℕ → List ℕ → Type 0) → List TextField → F → List ℕ → List ℕ → Type 0
Stand stands [] f here rest = here ≡ rest
Stand stands (field ∷ fields) f here rest = (behind : List ℕ) × stands field f here behind × Stand stands fields f behind rest
