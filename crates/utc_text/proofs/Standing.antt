-- A field stands as the grammar has it exactly where it is read, with what is read and what is left behind it.
use Rattle.std.proofs.Common.{◌≡◌, ℕ, ◌^◌, ◌-◌, ◌<◌, ◌≤◌, Bool, true, false, cond, nat_eq, List, [], ◌∷◌, ◌++◌, length, get_or, Option, Some, None, refl, ap, ◌∙◌, arith, append_assoc, pos}
use Rattle.std.proofs.lemmas.Bool.{le-leb, ne_eqb}
use Rattle.std.specs.Int.{IsInRange}
use Rattle.std.specs.Char.{is_ascii_digit}
use Rattle.std.specs.Prelude.{codes}
use Rattle.std.specs.Str.Parse.{digits_value}
use Rattle.jiff_core.specs.Calendar.{days_in_month}
use Rattle.jiff_core.proofs.CalendarLemmas.{days_in_month_bounds}
use Rattle.utc_text.specs.Fields.{part_at, year_at, fraction_at, tdf_hour_at, seconds_at, stated_at, inaccuracy_at, days_at}
use Rattle.utc_text.specs.Reading.{sign_at}
use Rattle.utc_text.specs.Grammar.{digits, fraction_text, IsFraction, fraction_units, TdfField, InaccuracyField, Unstated, Dashes, Infinite, Seconds, seconds_units, IsInaccuracyField, inaccuracy_text, inaccuracy_said, IsDaysField, BeginsNot, EndsFraction, EndsInaccuracy, PartStands, TdfHourStands, TdfMinuteStands, InaccuracyStands, FractionStands, SignStands}
use Rattle.utc_text.specs.Written.{sign_text, EndsTdf, EndsSign}
use Rattle.utc_text.proofs.DigitLemmas.{digit_octet}
use Rattle.utc_text.proofs.Again.{two_digits_again, part_again, year_again, digits_again, days_again}
use Rattle.utc_text.proofs.FieldsTaken.{part_takes}
use Rattle.utc_text.proofs.PartsTaken.{hour_takes, hour_absent}

no_digit : (rest : List ℕ) → BeginsNot is_ascii_digit rest → is_ascii_digit (get_or rest 0 0) ≡ false
no_digit [] h = refl
no_digit (octet ∷ rest) h = h

-- ---- parts

pub part_reads : (separator low high n : ℕ) (here rest : List ℕ) → high < 100 → PartStands separator low high n here rest
    → part_at separator low high here ≡ Some (n, rest)
part_reads separator low high n here rest small s =
    let few : n < 100 = omega (arith, s.0) in
    ap (part_at separator low high) s.1 ∙ part_again separator low high n rest s.0.0 s.0.1 few

pub part_stands : (separator low high n : ℕ) (here rest : List ℕ) → part_at separator low high here ≡ Some (n, rest)
    → PartStands separator low high n here rest
part_stands separator low high n here rest e = let t = part_takes separator low high here n rest e in ((t.1, t.2), t.0)

-- the last day that may stand is that of the year and the month before it
pub day_reads : (year month y m n : ℕ) (here rest : List ℕ) → y ≡ year → m ≡ month
    → PartStands 45 1 (days_in_month (pos y) m) n here rest
    → part_at 45 1 (days_in_month (pos year) month) here ≡ Some (n, rest)
day_reads year month y m n here rest a b s =
    let long = days_in_month_bounds (pos y) m in
    let small : days_in_month (pos y) m < 100 = omega (arith, long) in
    rw (← a, ← b) (part_reads 45 1 (days_in_month (pos y) m) n here rest small s)

pub day_stands : (year month y m n : ℕ) (here rest : List ℕ) → y ≡ year → m ≡ month
    → part_at 45 1 (days_in_month (pos year) month) here ≡ Some (n, rest)
    → PartStands 45 1 (days_in_month (pos y) m) n here rest
day_stands year month y m n here rest a b e = rw (a, b) (part_stands 45 1 (days_in_month (pos year) month) n here rest e)

pub year_reads : (n : ℕ) (here rest : List ℕ) → IsInRange 1582 9999 n × (here ≡ digits 4 n ++ rest)
    → year_at here ≡ Some (n, rest)
year_reads n here rest s = ap year_at s.1 ∙ year_again n rest s.0

-- ---- fractions

fraction_ended : (fraction : Option (List ℕ)) (rest : List ℕ) → IsFraction fraction → EndsFraction fraction rest
    → fraction_at (fraction_text fraction ++ rest) ≡ Some (fraction_units fraction, rest)
unfolding fraction_at
fraction_ended None [] h ends = refl
fraction_ended None (octet ∷ rest) h ends = rw ends refl
fraction_ended (Some ds) rest h ends = rw (digits_again 7 ds rest h.0 h.1 (no_digit rest ends)) refl

pub fraction_reads : (fraction : Option (List ℕ)) (here rest : List ℕ) → FractionStands fraction here rest
    → fraction_at here ≡ Some (fraction_units fraction, rest)
fraction_reads fraction here rest s = ap fraction_at s.2 ∙ fraction_ended fraction rest s.0 s.1

-- ---- time differential factors

-- what the sign and the hours say
abbrev pub hour_said : Option TdfField → Option (Bool × ℕ)
hour_said None = None
hour_said (Some t) = Some (t.west, t.hours)

no_hour : (rest : List ℕ) → EndsTdf None rest → tdf_hour_at rest ≡ Some (None, rest)
unfolding tdf_hour_at
no_hour [] ends = refl
no_hour (octet ∷ rest) ends = rw ends refl

hour_again : (west : Bool) (hours : ℕ) (rest : List ℕ) → hours ≤ 23
    → tdf_hour_at (cond west 45 43 ∷ digits 2 hours ++ rest) ≡ Some (Some (west, hours), rest)
unfolding tdf_hour_at
hour_again true hours rest h = rw (two_digits_again hours rest (omega arith), le-leb hours 23 h) refl
hour_again false hours rest h = rw (two_digits_again hours rest (omega arith), le-leb hours 23 h) refl

pub hour_reads : (t : Option TdfField) (here rest : List ℕ) → TdfHourStands t here rest
    → tdf_hour_at here ≡ Some (hour_said t, rest)
hour_reads None here rest s = ap tdf_hour_at s.1 ∙ no_hour rest s.0
hour_reads (Some t) here rest s = ap tdf_hour_at s.1 ∙ hour_again t.west t.hours rest s.0.1

-- the field of that sign and hours, at those minutes
abbrev pub tdf_made : Option (Bool × ℕ) → ℕ → Option TdfField
tdf_made None minutes = None
tdf_made (Some hour) minutes = Some (record { west = hour.0; hours = hour.1; minutes = minutes })

pub hour_stands : (hour : Option (Bool × ℕ)) (minutes : ℕ) (here rest : List ℕ) → tdf_hour_at here ≡ Some (hour, rest)
    → TdfHourStands (tdf_made hour minutes) here rest
hour_stands None minutes here rest e = hour_absent here rest e
hour_stands (Some hour) minutes here rest e = let t = hour_takes here hour.0 hour.1 rest e in ((omega arith, t.right), t.spelled)

-- its minutes, which stand only behind a sign and hours
abbrev pub minutes_said : Option TdfField → ℕ
minutes_said None = 0
minutes_said (Some t) = t.minutes

pub minute_reads : (t : Option TdfField) (hour : Bool × ℕ) (here rest : List ℕ) → hour_said t ≡ Some hour
    → TdfMinuteStands t here rest → part_at 58 0 59 here ≡ Some (minutes_said t, rest)
minute_reads None hour here rest e s = absurd cc
minute_reads (Some t) hour here rest e s = part_reads 58 0 59 t.minutes here rest (omega arith) s

pub no_minute : (t : Option TdfField) (here rest : List ℕ) → hour_said t ≡ None → TdfMinuteStands t here rest → here ≡ rest
no_minute None here rest e s = s
no_minute (Some t) here rest e s = absurd cc

-- ---- inaccuracies

unstated_ended : (rest : List ℕ) → EndsInaccuracy Unstated rest → inaccuracy_at rest ≡ Some (None, rest)
unfolding inaccuracy_at
unstated_ended [] ends = refl
unstated_ended (octet ∷ rest) ends = rw ends refl

dashes_ended : (rest : List ℕ) → inaccuracy_at (codes "I-----" ++ rest) ≡ Some (None, rest)
unfolding inaccuracy_at stated_at
dashes_ended rest = refl

infinite_ended : (rest : List ℕ) → inaccuracy_at (codes "Iinf" ++ rest) ≡ Some (None, rest)
unfolding inaccuracy_at stated_at
infinite_ended rest = refl

seconds_ended : (d : ℕ) (ds : List ℕ) (fraction : Option (List ℕ)) (rest : List ℕ)
    → IsInaccuracyField (Seconds (d ∷ ds) fraction) → EndsInaccuracy (Seconds (d ∷ ds) fraction) rest
    → inaccuracy_at (73 ∷ (d ∷ ds) ++ (fraction_text fraction ++ rest)) ≡ Some (Some (seconds_units (d ∷ ds) fraction), rest)
unfolding inaccuracy_at stated_at seconds_at
seconds_ended d ds fraction rest h ends =
    let octet = digit_octet d h.0.0 in
    let dash : nat_eq 45 d ≡ false = ne_eqb 45 d (λ e. omega arith) in
    let letter : nat_eq 105 d ≡ false = ne_eqb 105 d (λ e. omega arith) in
    let whole = digits_again 9 (d ∷ ds) (fraction_text fraction ++ rest) h.0 h.2 (no_digit (fraction_text fraction ++ rest) ends.0) in
    rw (dash, letter, whole, fraction_ended fraction rest h.3 ends.1, le-leb 1 (length (d ∷ ds)) h.1, le-leb (seconds_units (d ∷ ds) fraction) (2 ^ 48 - 2) h.4) refl

inaccuracy_ended : (i : InaccuracyField) (rest : List ℕ) → IsInaccuracyField i → EndsInaccuracy i rest
    → inaccuracy_at (inaccuracy_text i ++ rest) ≡ Some (inaccuracy_said i, rest)
inaccuracy_ended Unstated rest h ends = unstated_ended rest ends
inaccuracy_ended Dashes rest h ends = dashes_ended rest
inaccuracy_ended Infinite rest h ends = infinite_ended rest
inaccuracy_ended (Seconds [] fraction) rest h ends = absurd (omega (arith, h.1))
inaccuracy_ended (Seconds (d ∷ ds) fraction) rest h ends =
    ap inaccuracy_at (append_assoc (73 ∷ d ∷ ds) (fraction_text fraction) rest) ∙ seconds_ended d ds fraction rest h ends

pub inaccuracy_reads : (i : InaccuracyField) (here rest : List ℕ) → InaccuracyStands i here rest
    → inaccuracy_at here ≡ Some (inaccuracy_said i, rest)
inaccuracy_reads i here rest s = ap inaccuracy_at s.2 ∙ inaccuracy_ended i rest s.0 s.1

-- ---- signs and days

sign_ended : (negative : Bool) (rest : List ℕ) → EndsSign negative rest → sign_at (sign_text negative ++ rest) ≡ (negative, rest)
unfolding sign_at
sign_ended true rest ends = refl
sign_ended false [] ends = refl
sign_ended false (octet ∷ rest) ends = rw ends refl

pub sign_reads : (negative : Bool) (here rest : List ℕ) → SignStands negative here rest → sign_at here ≡ (negative, rest)
sign_reads true here rest s = ap sign_at s ∙ sign_ended true rest tt
sign_reads false here rest s = ap sign_at s.1 ∙ sign_ended false rest s.0

pub days_reads : (ds here rest : List ℕ) → IsDaysField ds × BeginsNot is_ascii_digit rest × (here ≡ ds ++ rest)
    → days_at here ≡ Some (digits_value 10 ds, rest)
days_reads ds here rest s = ap days_at s.2 ∙ days_again ds rest s.0 (no_digit rest s.1)
