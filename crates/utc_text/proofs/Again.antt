-- What is spelled by the grammar is read.
use Rattle.std.proofs.Common.{◌≡◌, ℕ, zero, suc, ◌+◌, ◌-◌, ◌*◌, ◌/◌, ◌%◌, ◌^◌, ◌<◌, ◌≤◌, Bool, true, false, cond, nat_eq, List, [], ◌∷◌, ◌++◌, length, get_or, Option, Some, None, Ok, refl, sym, ap, ◌∙◌, arith, append_assoc, pos}
use Rattle.std.proofs.lemmas.Bool.{le-leb, lt-ltb, eq-eqb, ne_eqb, eqb-false}
use Rattle.std.proofs.lemmas.Bool.Decides.{nat_tests}
use Rattle.std.proofs.lemmas.List.{take_at, drop_at, append-nil}
use Rattle.std.specs.Int.{IsInRange}
use Rattle.std.specs.List.{prefix_len}
use Rattle.std.specs.Char.{is_ascii_digit}
use Rattle.std.specs.Str.Parse.{AllDigits, digits_value}
use Rattle.utc_text.specs.Fields.{behind, two_digits, part_at, year_at, digits_at, fraction_at, tdf_hour_at, seconds_at, stated_at, inaccuracy_at, days_at}
use Rattle.utc_text.specs.Grammar.{digits, fraction_text, IsFraction, fraction_units, ClockField, TdfField, tdf_said, InaccuracyField, Unstated, Dashes, Infinite, Seconds, inaccuracy_text, seconds_units, IsInaccuracyField, inaccuracy_said, AbsoluteFields, IsDaysField, RelativeFields, relative_units, YearMonthDay, signed}
use Rattle.utc_text.specs.Written.{date_text, IsDateField, clock_text, IsClockField, clock_said, tdf_text, IsTdfField, absolute_text, IsAbsolute, absolute_said, sign_text, relative_text, IsRelative, relative_said}
use Rattle.utc_text.specs.Reading.{right_at, date_of, clock_of, tdf_minute_of, tdf_of, end_of, moment_of, sign_at, fits_time, time_of, length_of}
use Rattle.std.proofs.Common.{FitsSigned, w64}
use Rattle.jiff_core.proofs.SignedLemmas.{signed_arith}
use Rattle.jiff_core.specs.Calendar.{days_in_month}
use Rattle.jiff_core.proofs.CalendarLemmas.{days_in_month_bounds}
use Rattle.utc_text.proofs.DigitLemmas.{digit_octet}

digit_test : (d : ℕ) → d < 10 → is_ascii_digit (48 + d) ≡ true
digit_test d h = grind (arith, nat_tests)

digit_pair : (t o : ℕ) (rest : List ℕ) → t < 10 → o < 10 → two_digits ((48 + t) ∷ (48 + o) ∷ rest) ≡ Some (t * 10 + o, rest)
unfolding two_digits
digit_pair t o rest h k =
    let value : (48 + t - 48) * 10 + (48 + o - 48) ≡ t * 10 + o = omega arith in
    rw (digit_test t h, digit_test o k, value) refl

pub two_digits_again : (n : ℕ) (rest : List ℕ) → n < 100 → two_digits (digits 2 n ++ rest) ≡ Some (n, rest)
unfolding digits
two_digits_again n rest h =
    let value : n / 10 % 10 * 10 + n % 10 ≡ n = omega arith in
    digit_pair (n / 10 % 10) (n % 10) rest (omega arith) (omega arith) ∙ rw value refl

pub part_again : (separator low high n : ℕ) (rest : List ℕ) → low ≤ n → n ≤ high → n < 100
    → part_at separator low high (separator ∷ digits 2 n ++ rest) ≡ Some (n, rest)
unfolding part_at behind
part_again separator low high n rest l h small =
    rw (eq-eqb separator separator refl, two_digits_again n rest small, le-leb low n l, le-leb n high h) refl

pub year_again : (n : ℕ) (rest : List ℕ) → IsInRange 1582 9999 n → year_at (digits 4 n ++ rest) ≡ Some (n, rest)
unfolding year_at digits
year_again n rest h =
    let high =
    digit_pair (n / 10 / 10 / 10 % 10) (n / 10 / 10 % 10) ((48 + n / 10 % 10) ∷ (48 + n % 10) ∷ rest) (omega arith) (omega arith) in
    let low = digit_pair (n / 10 % 10) (n % 10) rest (omega arith) (omega arith) in
    let value : (n / 10 / 10 / 10 % 10 * 10 + n / 10 / 10 % 10) * 100 + (n / 10 % 10 * 10 + n % 10) ≡ n = omega arith in
    rw (high, low, value, le-leb 1582 n h.0) refl

-- a run of digits ends where no digit follows
pub run_again : (ds rest : List ℕ) → AllDigits 10 ds → is_ascii_digit (get_or rest 0 0) ≡ false
    → prefix_len is_ascii_digit (ds ++ rest) ≡ length ds
run_again [] [] h stop = refl
run_again [] (r ∷ rest) h stop = rw stop refl
run_again (d ∷ ds) rest h stop =
    let octet = digit_octet d h.0 in
    let tested : is_ascii_digit d ≡ true = grind (arith, nat_tests) in
    let more : 1 + length ds ≡ suc (length ds) = omega arith in
    rw (tested, run_again ds rest h.1 stop, more) refl

pub digits_again : (most : ℕ) (ds rest : List ℕ) → AllDigits 10 ds → length ds ≤ most → is_ascii_digit (get_or rest 0 0) ≡ false
    → digits_at most (ds ++ rest) ≡ Some (ds, rest)
unfolding digits_at
digits_again most ds rest all few stop =
    rw (run_again ds rest all stop, le-leb (length ds) most few, take_at ds rest (length ds) refl, drop_at ds rest (length ds) refl) refl

pub fraction_again : (o : Option (List ℕ)) (rest : List ℕ) → IsFraction o → is_ascii_digit (get_or rest 0 0) ≡ false
    → (get_or rest 0 0 ≡ 46 → ⊥) → fraction_at (fraction_text o ++ rest) ≡ Some (fraction_units o, rest)
unfolding fraction_at
fraction_again None [] h stop point = refl
fraction_again None (r ∷ rest) h stop point = rw (ne_eqb r 46 point) refl
fraction_again (Some ds) rest h stop point = rw (digits_again 7 ds rest h.0 h.1 stop) refl

-- what stands behind a field is no digit and no point
pub record Stops (rest : List ℕ) : Type 0 where
  pub digit : is_ascii_digit (get_or rest 0 0) ≡ false
  pub point : get_or rest 0 0 ≡ 46 → ⊥

pub date_again : (text : List ℕ) (d : YearMonthDay) (rest : List ℕ) → IsDateField d
    → date_of text (date_text d ++ rest) ≡ Ok (d, rest)
unfolding date_of right_at
date_again text d rest h =
    let long = days_in_month_bounds (pos d.year) d.month in
    let regrouped : date_text d ++ rest ≡ digits 4 d.year ++ (45 ∷ digits 2 d.month ++ (45 ∷ digits 2 d.day ++ rest)) =
    simp append_assoc in
    let year = year_again d.year (45 ∷ digits 2 d.month ++ (45 ∷ digits 2 d.day ++ rest)) h.year in
    let month = part_again 45 1 12 d.month (45 ∷ digits 2 d.day ++ rest) h.month.0 h.month.1 (omega (arith, h.month)) in
    let day = part_again 45 1 (days_in_month (pos d.year) d.month) d.day rest h.day.0 h.day.1 (omega (arith, h.day, long)) in
    ap (date_of text) regrouped ∙ rw (year, month, day) refl

pub clock_again : (text : List ℕ) (c : ClockField) (rest : List ℕ) → IsClockField c → Stops rest
    → clock_of text (clock_text c ++ rest) ≡ Ok (clock_said c, rest)
unfolding clock_of right_at
clock_again text c rest h stop =
    let regrouped : clock_text c ++ rest ≡ 45 ∷ digits 2 c.hour ++ (58 ∷ digits 2 c.minute ++ (58 ∷ digits 2 c.second ++ (fraction_text c.fraction ++ rest))) = simp append_assoc in
    let hour =
    part_again 45 0 23 c.hour (58 ∷ digits 2 c.minute ++ (58 ∷ digits 2 c.second ++ (fraction_text c.fraction ++ rest))) (omega arith) h.hour (omega (arith, h.hour)) in
    let minute =
    part_again 58 0 59 c.minute (58 ∷ digits 2 c.second ++ (fraction_text c.fraction ++ rest)) (omega arith) h.minute (omega (arith, h.minute)) in
    let second = part_again 58 0 59 c.second (fraction_text c.fraction ++ rest) (omega arith) h.second (omega (arith, h.second)) in
    let fraction = fraction_again c.fraction rest h.fraction stop.digit stop.point in
    ap (clock_of text) regrouped ∙ rw (hour, minute, second, fraction) refl

tdf_there : (text : List ℕ) (west : Bool) (hours minutes : ℕ) (rest : List ℕ) → hours ≤ 23 → minutes ≤ 59
    → tdf_of text (cond west 45 43 ∷ digits 2 hours ++ (58 ∷ digits 2 minutes ++ rest)) ≡ Ok (signed west (hours * 60 + minutes), rest)
unfolding tdf_of right_at tdf_hour_at tdf_minute_of
tdf_there text true hours minutes rest h m =
    rw (two_digits_again hours (58 ∷ digits 2 minutes ++ rest) (omega arith), le-leb hours 23 h, part_again 58 0 59 minutes rest (omega arith) m (omega arith)) refl
tdf_there text false hours minutes rest h m =
    rw (two_digits_again hours (58 ∷ digits 2 minutes ++ rest) (omega arith), le-leb hours 23 h, part_again 58 0 59 minutes rest (omega arith) m (omega arith)) refl

pub tdf_again : (text : List ℕ) (t : Option TdfField) (rest : List ℕ) → IsTdfField t → (get_or rest 0 0 ≡ 43 → ⊥)
    → (get_or rest 0 0 ≡ 45 → ⊥) → tdf_of text (tdf_text t ++ rest) ≡ Ok (tdf_said t, rest)
unfolding tdf_of right_at tdf_hour_at tdf_minute_of
tdf_again text None [] h east west = refl
tdf_again text None (r ∷ rest) h east west = rw (ne_eqb r 43 east, ne_eqb r 45 west) refl
tdf_again text (Some t) rest h east west =
    let regrouped : tdf_text (Some t) ++ rest ≡ cond t.west 45 43 ∷ digits 2 t.hours ++ (58 ∷ digits 2 t.minutes ++ rest) =
    simp append_assoc in
    ap (tdf_of text) regrouped ∙ tdf_there text t.west t.hours t.minutes rest h.0 h.1

fraction_stops : (fraction : Option (List ℕ)) → is_ascii_digit (get_or (fraction_text fraction) 0 0) ≡ false
fraction_stops None = refl
fraction_stops (Some ds) = refl

fraction_ends : (fraction : Option (List ℕ)) → IsFraction fraction
    → fraction_at (fraction_text fraction) ≡ Some (fraction_units fraction, [])
fraction_ends fraction h =
    let zero_is_none : is_ascii_digit 0 ≡ false = refl in
    ap fraction_at (sym (append-nil (fraction_text fraction))) ∙ fraction_again fraction [] h zero_is_none (eqb-false 0 46 refl)

seconds_again : (d : ℕ) (ds : List ℕ) (fraction : Option (List ℕ)) → IsInaccuracyField (Seconds (d ∷ ds) fraction)
    → stated_at ((d ∷ ds) ++ fraction_text fraction) ≡ Some (Some (seconds_units (d ∷ ds) fraction), [])
unfolding stated_at seconds_at
seconds_again d ds fraction h =
    let octet = digit_octet d h.0.0 in
    let dash : nat_eq 45 d ≡ false = ne_eqb 45 d (λ e. omega arith) in
    let letter : nat_eq 105 d ≡ false = ne_eqb 105 d (λ e. omega arith) in
    let whole = digits_again 9 (d ∷ ds) (fraction_text fraction) h.0 h.2 (fraction_stops fraction) in
    rw (dash, letter, whole, fraction_ends fraction h.3, le-leb 1 (length (d ∷ ds)) h.1, le-leb (seconds_units (d ∷ ds) fraction) (2 ^ 48 - 2) h.4) refl

pub end_again : (text : List ℕ) (i : InaccuracyField) → IsInaccuracyField i
    → end_of text (inaccuracy_text i) ≡ Ok (inaccuracy_said i)
unfolding end_of right_at inaccuracy_at stated_at
end_again text Unstated h = refl
end_again text Dashes h = refl
end_again text Infinite h = refl
end_again text (Seconds [] fraction) h = absurd (omega (arith, h.1))
end_again text (Seconds (d ∷ ds) fraction) h = rw (seconds_again d ds fraction h) refl

-- what stands behind the fields before
pub inaccuracy_stops : (i : InaccuracyField) → Stops (inaccuracy_text i)
inaccuracy_stops Unstated = record { digit = refl; point = eqb-false 0 46 refl }
inaccuracy_stops Dashes = record { digit = refl; point = eqb-false 73 46 refl }
inaccuracy_stops Infinite = record { digit = refl; point = eqb-false 73 46 refl }
inaccuracy_stops (Seconds ds fraction) = record { digit = refl; point = eqb-false 73 46 refl }

not_east : (i : InaccuracyField) → get_or (inaccuracy_text i) 0 0 ≡ 43 → ⊥
not_east Unstated = eqb-false 0 43 refl
not_east Dashes = eqb-false 73 43 refl
not_east Infinite = eqb-false 73 43 refl
not_east (Seconds ds fraction) = eqb-false 73 43 refl

not_west : (i : InaccuracyField) → get_or (inaccuracy_text i) 0 0 ≡ 45 → ⊥
not_west Unstated = eqb-false 0 45 refl
not_west Dashes = eqb-false 73 45 refl
not_west Infinite = eqb-false 73 45 refl
not_west (Seconds ds fraction) = eqb-false 73 45 refl

sign_stops : (west : Bool) (rest : List ℕ) → Stops (cond west 45 43 ∷ rest)
sign_stops true rest = record { digit = refl; point = eqb-false 45 46 refl }
sign_stops false rest = record { digit = refl; point = eqb-false 43 46 refl }

pub tdf_stops : (t : Option TdfField) (i : InaccuracyField) → Stops (tdf_text t ++ inaccuracy_text i)
tdf_stops None i = inaccuracy_stops i
tdf_stops (Some t) i = sign_stops t.west _

pub absolute_again : (f : AbsoluteFields) → IsAbsolute f → moment_of (absolute_text f) ≡ Ok (absolute_said f)
unfolding moment_of
absolute_again f h =
    let text = absolute_text f in
    let regrouped : absolute_text f ≡ date_text f.date ++ (clock_text f.clock ++ (tdf_text f.tdf ++ inaccuracy_text f.inaccuracy)) =
    append_assoc (date_text f.date ++ clock_text f.clock) (tdf_text f.tdf) (inaccuracy_text f.inaccuracy)
    ∙ append_assoc (date_text f.date) (clock_text f.clock) (tdf_text f.tdf ++ inaccuracy_text f.inaccuracy) in
    let date : date_of text text ≡ Ok (f.date, clock_text f.clock ++ (tdf_text f.tdf ++ inaccuracy_text f.inaccuracy)) =
    ap (date_of text) regrouped
    ∙ date_again text f.date (clock_text f.clock ++ (tdf_text f.tdf ++ inaccuracy_text f.inaccuracy)) h.date in
    let clock = clock_again text f.clock (tdf_text f.tdf ++ inaccuracy_text f.inaccuracy) h.clock (tdf_stops f.tdf f.inaccuracy) in
    let tdf = tdf_again text f.tdf (inaccuracy_text f.inaccuracy) h.tdf (not_east f.inaccuracy) (not_west f.inaccuracy) in
    rw (date, clock, tdf, end_again text f.inaccuracy h.inaccuracy) refl

pub days_again : (ds rest : List ℕ) → IsDaysField ds → is_ascii_digit (get_or rest 0 0) ≡ false
    → days_at (ds ++ rest) ≡ Some (digits_value 10 ds, rest)
unfolding days_at
days_again ds rest h stop =
    rw (digits_again 8 ds rest h.0 h.2 stop, le-leb 1 (length ds) h.1, le-leb (digits_value 10 ds) 10_675_199 h.3) refl

pub sign_again : (negative : Bool) (ds rest : List ℕ) → IsDaysField ds
    → sign_at (sign_text negative ++ (ds ++ rest)) ≡ (negative, ds ++ rest)
unfolding sign_at
sign_again true ds rest h = refl
sign_again false [] rest h = absurd (omega (arith, h.1))
sign_again false (d ∷ ds) rest h =
    let octet = digit_octet d h.0.0 in
    let dash : nat_eq d 45 ≡ false = ne_eqb d 45 (λ e. omega arith) in
    rw dash refl

pub fits_again : (negative : Bool) (units : ℕ) → FitsSigned w64 (signed negative units) → fits_time negative units ≡ true
fits_again true zero h = refl
fits_again true (suc units) h = le-leb (suc units) (2 ^ 63) (omega (arith, signed_arith, h))
fits_again false units h = lt-ltb units (2 ^ 63) (omega (arith, signed_arith, h))

pub relative_again : (f : RelativeFields) → IsRelative f → length_of (relative_text f) ≡ Ok (relative_said f)
unfolding length_of time_of right_at
relative_again f h =
    let text = relative_text f in
    let behind_days = clock_text f.clock ++ inaccuracy_text f.inaccuracy in
    let regrouped : relative_text f ≡ sign_text f.negative ++ (f.days ++ behind_days) =
    append_assoc (sign_text f.negative ++ f.days) (clock_text f.clock) (inaccuracy_text f.inaccuracy)
    ∙ append_assoc (sign_text f.negative) f.days behind_days in
    let sign : sign_at text ≡ (f.negative, f.days ++ behind_days) =
    ap sign_at regrouped ∙ sign_again f.negative f.days behind_days h.days in
    let days = days_again f.days behind_days h.days refl in
    let clock = clock_again text f.clock (inaccuracy_text f.inaccuracy) h.clock (inaccuracy_stops f.inaccuracy) in
    rw (sign, days, clock, fits_again f.negative (relative_units f) h.time, end_again text f.inaccuracy h.inaccuracy) refl
