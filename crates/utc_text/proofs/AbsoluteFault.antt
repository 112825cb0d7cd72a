-- The fault of an absolute text names its first wrong field.
use Rattle.std.proofs.Common.{◌≡◌, ℕ, ◌+◌, ◌*◌, Bool, cond, nat_eq, List, [], ◌∷◌, length, Option, Some, None, Result, Ok, Err, refl, sym, ap, arith, ℤ, pos}
use Rattle.std.specs.Prelude.{IfErr}
use Rattle.jiff_core.specs.Calendar.{days_in_month}
use Rattle.utc_value.specs.Stamp.{Stamp}
use Rattle.utc_text.specs.declared.fault.TextField.{TextField}
use Rattle.utc_text.specs.declared.fault.TextField.TheVariants.{Year, Month, Day, Hour, Minute, Second, Fraction, TdfHour, TdfMinute, Inaccuracy, Tail}
use Rattle.utc_text.specs.declared.fault.TextFault.{TextFault}
use Rattle.utc_text.specs.Fields.{part_at, year_at, fraction_at, tdf_hour_at, inaccuracy_at}
use Rattle.utc_text.specs.Grammar.{YearMonthDay, signed, AbsoluteFields, fraction_units, inaccuracy_said, Unstated, Stand, AbsoluteStands, absolute_order}
use Rattle.utc_text.specs.Reading.{Clock, Moment, right_at, date_of, clock_of, tdf_minute_of, tdf_of, end_of, moment_of, civil_of, absolute_of, moment_stamp}
use Rattle.utc_text.specs.FirstWrong.{fault_at, IsAbsoluteFault}
use Rattle.utc_text.specs.Reading as reading
use Rattle.utc_text.proofs.FieldsTaken.{year_takes, fraction_takes}
use Rattle.utc_text.proofs.InaccuracyTaken.{inaccuracy_takes}
use Rattle.utc_text.proofs.Standing.{part_reads, part_stands, day_reads, day_stands, year_reads, fraction_reads, hour_said, hour_reads, tdf_made, hour_stands, minutes_said, minute_reads, no_minute, inaccuracy_reads}
use Rattle.utc_text.proofs.Reached.{Reached, Names, extended, further, unread, err_is, err_kept, tail_left, units_read, second_read, minute_read, hour_read}

abbrev At : List TextField → List ℕ → List ℕ → (AbsoluteFields → Type 0) → Type 0
At front text left agrees = Reached AbsoluteStands front text left agrees

abbrev pub Named : List ℕ → TextFault → Type 0
Named text d = Names AbsoluteStands absolute_order text d

abbrev Any : AbsoluteFields → Type 0
Any f = Unit {0}

abbrev at_clock : List TextField
at_clock = Year ∷ Month ∷ Day ∷ []

abbrev at_minute : List TextField
at_minute = Year ∷ Month ∷ Day ∷ Hour ∷ []

abbrev at_second : List TextField
at_second = Year ∷ Month ∷ Day ∷ Hour ∷ Minute ∷ []

abbrev at_fraction : List TextField
at_fraction = Year ∷ Month ∷ Day ∷ Hour ∷ Minute ∷ Second ∷ []

abbrev at_tdf : List TextField
at_tdf = Year ∷ Month ∷ Day ∷ Hour ∷ Minute ∷ Second ∷ Fraction ∷ []

abbrev at_minutes : List TextField
at_minutes = Year ∷ Month ∷ Day ∷ Hour ∷ Minute ∷ Second ∷ Fraction ∷ TdfHour ∷ []

abbrev at_end : List TextField
at_end = Year ∷ Month ∷ Day ∷ Hour ∷ Minute ∷ Second ∷ Fraction ∷ TdfHour ∷ TdfMinute ∷ []

abbrev at_tail : List TextField
at_tail = Year ∷ Month ∷ Day ∷ Hour ∷ Minute ∷ Second ∷ Fraction ∷ TdfHour ∷ TdfMinute ∷ Inaccuracy ∷ []

-- before a field was read
nothing_read : (text : List ℕ) → At [] text text Any
nothing_read text = record {
  fields = record {
    date = record { year = 0; month = 0; day = 0 };
    clock = record { hour = 0; minute = 0; second = 0; fraction = None };
    tdf = None;
    inaccuracy = Unstated;
  };
  before = refl;
  same = λ other rest s. (sym s, tt);
}

-- ---- the end

tail_step : (text : List ℕ) (d : TextFault) (said : Option ℕ) (left : List ℕ) → At at_tail text left Any
    → cond (nat_eq (length left) 0) (Ok said) (Err (fault_at text Tail left)) ≡ Err d → Named text d
tail_step text d said left r e =
    let t = tail_left text said left d e in
    unread {V = Unit {0}} {o = None} Tail [] (λ f. tt) r (λ other rest a s. absurd (t.0 s.0)) refl refl t.1

inaccuracy_step : (text : List ℕ) (d : TextFault) (left : List ℕ) → At at_end text left Any → (o : Option (Option ℕ × List ℕ))
    → inaccuracy_at left ≡ o
    → reading.◌>>=◌ (right_at text Inaccuracy left o) (λ i. cond (nat_eq (length i.1) 0) (Ok i.0) (Err (fault_at text Tail i.1))) ≡ Err d
    → Named text d
unfolding right_at
inaccuracy_step text d left r None none e =
    unread Inaccuracy (Tail ∷ []) (λ f. inaccuracy_said f.inaccuracy) r (λ other rest a s. inaccuracy_reads other.inaccuracy left rest s) none refl (sym (err_is e))
inaccuracy_step text d left r (Some i) some e =
    let t = inaccuracy_takes left i.0 i.1 some in
    tail_step text d i.0 i.1 (further Inaccuracy (λ f. inaccuracy_said f.inaccuracy) r (λ other rest a s. inaccuracy_reads other.inaccuracy left rest s) some (λ f a e. tt) (record r.fields { inaccuracy = t.field }) r.before (t.right, t.ends, t.spelled)) e

end_step : (text : List ℕ) (d : TextFault) (left : List ℕ) → At at_end text left Any → end_of text left ≡ Err d → Named text d
unfolding end_of
end_step text d left r e = inaccuracy_step text d left r (inaccuracy_at left) refl e

-- ---- the time differential factor

module _ {B : Type 0} (text : List ℕ) (d : TextFault) (k : ℤ × List ℕ → Result B TextFault) (go : (tdf : ℤ × List ℕ) → At at_end text tdf.1 Any → k tdf ≡ Err d → Named text d) (left : List ℕ) (r : At at_tdf text left Any) where
  hour_there : (hour : Option (Bool × ℕ)) (middle : List ℕ) → tdf_hour_at left ≡ Some (hour, middle)
      → At at_minutes text middle (λ f. hour_said f.tdf ≡ hour)
  hour_there hour middle there =
      further TdfHour (λ f. hour_said f.tdf) r (λ other rest a s. hour_reads other.tdf left rest s) there (λ f a e. e) (record r.fields { tdf = tdf_made hour 0 }) r.before (hour_stands hour 0 left middle there)

  tdf_minute_step : (hour : Bool × ℕ) (middle : List ℕ) → tdf_hour_at left ≡ Some (Some hour, middle)
      → (o : Option (ℕ × List ℕ)) → part_at 58 0 59 middle ≡ o
      → reading.◌>>=◌ (reading.◌>>=◌ (right_at text TdfMinute middle o) (λ minute. Ok (signed hour.0 (hour.1 * 60 + minute.0), minute.1))) k ≡ Err d
      → Named text d
  unfolding right_at
  tdf_minute_step hour middle there None none e =
      unread TdfMinute (Inaccuracy ∷ Tail ∷ []) (λ f. minutes_said f.tdf) (hour_there (Some hour) middle there) (λ other rest a s. minute_reads other.tdf hour middle rest a s) none refl (sym (err_is e))
  tdf_minute_step hour middle there (Some minute) some e =
      let fields : AbsoluteFields = record r.fields { tdf = tdf_made (Some hour) minute.0 } in
      let before : Stand AbsoluteStands at_minutes fields text middle =
      extended AbsoluteStands at_tdf TdfHour fields text left middle r.before (hour_stands (Some hour) minute.0 left middle there) in
      go (signed hour.0 (hour.1 * 60 + minute.0), minute.1) (further TdfMinute (λ f. minutes_said f.tdf) (hour_there (Some hour) middle there) (λ other rest a s. minute_reads other.tdf hour middle rest a s) some (λ f a e. tt) fields before (part_stands 58 0 59 minute.0 middle minute.1 some)) e

  behind_hour : (hour : Option (Bool × ℕ)) (middle : List ℕ) → tdf_hour_at left ≡ Some (hour, middle)
      → reading.◌>>=◌ (tdf_minute_of text middle hour) k ≡ Err d → Named text d
  unfolding tdf_minute_of
  behind_hour None middle there e =
      let fields : AbsoluteFields = record r.fields { tdf = None } in
      let before : Stand AbsoluteStands at_minutes fields text middle =
      extended AbsoluteStands at_tdf TdfHour fields text left middle r.before (hour_stands None 0 left middle there) in
      go (pos 0, middle) (further {V = Unit {0}} {o = Some (tt, middle)} {x = (tt, middle)} TdfMinute (λ f. tt) (hour_there None middle there) (λ other rest a s. ap (λ (x : List ℕ). Some (tt, x)) (no_minute other.tdf middle rest a s)) refl (λ f a e. tt) fields before refl) e
  behind_hour (Some hour) middle there e = tdf_minute_step hour middle there (part_at 58 0 59 middle) refl e

  tdf_hour_step : (o : Option (Option (Bool × ℕ) × List ℕ)) → tdf_hour_at left ≡ o
      → reading.◌>>=◌ (reading.◌>>=◌ (right_at text TdfHour left o) (λ hour. tdf_minute_of text hour.1 hour.0)) k ≡ Err d
      → Named text d
  unfolding right_at
  tdf_hour_step None none e =
      unread TdfHour (TdfMinute ∷ Inaccuracy ∷ Tail ∷ []) (λ f. hour_said f.tdf) r (λ other rest a s. hour_reads other.tdf left rest s) none refl (sym (err_is e))
  tdf_hour_step (Some hour) some e = behind_hour hour.0 hour.1 some e

  tdf_step : reading.◌>>=◌ (tdf_of text left) k ≡ Err d → Named text d
  unfolding tdf_of
  tdf_step e = tdf_hour_step (tdf_hour_at left) refl e

-- ---- the time of day

module _ {B : Type 0} (text : List ℕ) (d : TextFault) (k : Clock × List ℕ → Result B TextFault) (go : (clock : Clock × List ℕ) → At at_tdf text clock.1 Any → k clock ≡ Err d → Named text d) where
  fraction_step : (hour minute second : ℕ) (left : List ℕ) → At at_fraction text left Any → (o : Option (ℕ × List ℕ))
      → fraction_at left ≡ o → reading.◌>>=◌ (units_read text hour minute second left o) k ≡ Err d → Named text d
  unfolding right_at
  fraction_step hour minute second left r None none e =
      unread Fraction (TdfHour ∷ TdfMinute ∷ Inaccuracy ∷ Tail ∷ []) (λ f. fraction_units f.clock.fraction) r (λ other rest a s. fraction_reads other.clock.fraction left rest s) none refl (sym (err_is e))
  fraction_step hour minute second left r (Some units) some e =
      let t = fraction_takes left units.0 units.1 some in
      go (
        record {
          hour = hour;
          minute = minute;
          second = second;
          units = units.0;
        },
        units.1,
      ) (further Fraction (λ f. fraction_units f.clock.fraction) r (λ other rest a s. fraction_reads other.clock.fraction left rest s) some (λ f a e. tt) (record r.fields { clock = record r.fields.clock { fraction = t.fraction } }) r.before (t.right, t.ends, t.spelled)) e

  second_step : (hour minute : ℕ) (left : List ℕ) → At at_second text left Any → (o : Option (ℕ × List ℕ))
      → part_at 58 0 59 left ≡ o → reading.◌>>=◌ (second_read text hour minute left o) k ≡ Err d → Named text d
  unfolding right_at
  second_step hour minute left r None none e =
      unread Second (Fraction ∷ TdfHour ∷ TdfMinute ∷ Inaccuracy ∷ Tail ∷ []) (λ f. f.clock.second) r (λ other rest a s. part_reads 58 0 59 other.clock.second left rest (omega arith) s) none refl (sym (err_is e))
  second_step hour minute left r (Some second) some e =
      fraction_step hour minute second.0 second.1 (further Second (λ f. f.clock.second) r (λ other rest a s. part_reads 58 0 59 other.clock.second left rest (omega arith) s) some (λ f a e. tt) (record r.fields { clock = record r.fields.clock { second = second.0 } }) r.before (part_stands 58 0 59 second.0 left second.1 some)) (fraction_at second.1) refl e

  minute_step : (hour : ℕ) (left : List ℕ) → At at_minute text left Any → (o : Option (ℕ × List ℕ)) → part_at 58 0 59 left ≡ o
      → reading.◌>>=◌ (minute_read text hour left o) k ≡ Err d → Named text d
  unfolding right_at
  minute_step hour left r None none e =
      unread Minute (Second ∷ Fraction ∷ TdfHour ∷ TdfMinute ∷ Inaccuracy ∷ Tail ∷ []) (λ f. f.clock.minute) r (λ other rest a s. part_reads 58 0 59 other.clock.minute left rest (omega arith) s) none refl (sym (err_is e))
  minute_step hour left r (Some minute) some e =
      second_step hour minute.0 minute.1 (further Minute (λ f. f.clock.minute) r (λ other rest a s. part_reads 58 0 59 other.clock.minute left rest (omega arith) s) some (λ f a e. tt) (record r.fields { clock = record r.fields.clock { minute = minute.0 } }) r.before (part_stands 58 0 59 minute.0 left minute.1 some)) (part_at 58 0 59 minute.1) refl e

  hour_step : (left : List ℕ) → At at_clock text left Any → (o : Option (ℕ × List ℕ)) → part_at 45 0 23 left ≡ o
      → reading.◌>>=◌ (hour_read text left o) k ≡ Err d → Named text d
  unfolding right_at
  hour_step left r None none e =
      unread Hour (Minute ∷ Second ∷ Fraction ∷ TdfHour ∷ TdfMinute ∷ Inaccuracy ∷ Tail ∷ []) (λ f. f.clock.hour) r (λ other rest a s. part_reads 45 0 23 other.clock.hour left rest (omega arith) s) none refl (sym (err_is e))
  hour_step left r (Some hour) some e =
      minute_step hour.0 hour.1 (further Hour (λ f. f.clock.hour) r (λ other rest a s. part_reads 45 0 23 other.clock.hour left rest (omega arith) s) some (λ f a e. tt) (record r.fields { clock = record r.fields.clock { hour = hour.0 } }) r.before (part_stands 45 0 23 hour.0 left hour.1 some)) (part_at 58 0 59 hour.1) refl e

  clock_step : (left : List ℕ) → At at_clock text left Any → reading.◌>>=◌ (clock_of text left) k ≡ Err d → Named text d
  unfolding clock_of
  clock_step left r e = hour_step left r (part_at 45 0 23 left) refl e

-- ---- the date

abbrev day_read : List ℕ → ℕ → ℕ → List ℕ → Option (ℕ × List ℕ) → Result (YearMonthDay × List ℕ) TextFault
day_read text year month left o = reading.◌>>=◌ (right_at text Day left o) (λ day. Ok (
  record {
    year = year;
    month = month;
    day = day.0;
  },
  day.1,
))

abbrev month_read : List ℕ → ℕ → List ℕ → Option (ℕ × List ℕ) → Result (YearMonthDay × List ℕ) TextFault
month_read text year left o =
    reading.◌>>=◌ (right_at text Month left o) (λ month. day_read text year month.0 month.1 (part_at 45 1 (days_in_month (pos year) month.0) month.1))

module _ {B : Type 0} (text : List ℕ) (d : TextFault) (k : YearMonthDay × List ℕ → Result B TextFault) (go : (date : YearMonthDay × List ℕ) → At at_clock text date.1 Any → k date ≡ Err d → Named text d) where
  day_step : (year month : ℕ) (left : List ℕ)
      → At (Year ∷ Month ∷ []) text left (λ f. (f.date.year ≡ year) × (f.date.month ≡ month)) → (o : Option (ℕ × List ℕ))
      → part_at 45 1 (days_in_month (pos year) month) left ≡ o → reading.◌>>=◌ (day_read text year month left o) k ≡ Err d
      → Named text d
  unfolding right_at
  day_step year month left r None none e =
      unread Day (Hour ∷ Minute ∷ Second ∷ Fraction ∷ TdfHour ∷ TdfMinute ∷ Inaccuracy ∷ Tail ∷ []) (λ f. f.date.day) r (λ other rest a s. day_reads year month other.date.year other.date.month other.date.day left rest a.0 a.1 s) none refl (sym (err_is e))
  day_step year month left r (Some day) some e =
      let own = (r.same r.fields left r.before).1 in
      go (
        record {
          year = year;
          month = month;
          day = day.0;
        },
        day.1,
      ) (further Day (λ f. f.date.day) r (λ other rest a s. day_reads year month other.date.year other.date.month other.date.day left rest a.0 a.1 s) some (λ f a e. tt) (record r.fields { date = record r.fields.date { day = day.0 } }) r.before (day_stands year month r.fields.date.year r.fields.date.month day.0 left day.1 own.0 own.1 some)) e

  month_step : (year : ℕ) (left : List ℕ) → At (Year ∷ []) text left (λ f. f.date.year ≡ year) → (o : Option (ℕ × List ℕ))
      → part_at 45 1 12 left ≡ o → reading.◌>>=◌ (month_read text year left o) k ≡ Err d → Named text d
  unfolding right_at
  month_step year left r None none e =
      unread Month (Day ∷ Hour ∷ Minute ∷ Second ∷ Fraction ∷ TdfHour ∷ TdfMinute ∷ Inaccuracy ∷ Tail ∷ []) (λ f. f.date.month) r (λ other rest a s. part_reads 45 1 12 other.date.month left rest (omega arith) s) none refl (sym (err_is e))
  month_step year left r (Some month) some e =
      day_step year month.0 month.1 (further Month (λ f. f.date.month) r (λ other rest a s. part_reads 45 1 12 other.date.month left rest (omega arith) s) some (λ f a e. (a, e)) (record r.fields { date = record r.fields.date { month = month.0 } }) r.before (part_stands 45 1 12 month.0 left month.1 some)) (part_at 45 1 (days_in_month (pos year) month.0) month.1) refl e

  year_step : (o : Option (ℕ × List ℕ)) → year_at text ≡ o
      → reading.◌>>=◌ (reading.◌>>=◌ (right_at text Year text o) (λ year. month_read text year.0 year.1 (part_at 45 1 12 year.1))) k ≡ Err d
      → Named text d
  unfolding right_at
  year_step None none e =
      unread Year (Month ∷ Day ∷ Hour ∷ Minute ∷ Second ∷ Fraction ∷ TdfHour ∷ TdfMinute ∷ Inaccuracy ∷ Tail ∷ []) (λ f. f.date.year) (nothing_read text) (λ other rest a s. year_reads other.date.year text rest s) none refl (sym (err_is e))
  year_step (Some year) some e =
      let r = nothing_read text in
      let t = year_takes text year.0 year.1 some in
      month_step year.0 year.1 (further Year (λ f. f.date.year) r (λ other rest a s. year_reads other.date.year text rest s) some (λ f a e. e) (record r.fields { date = record r.fields.date { year = year.0 } }) r.before (t.1, t.0)) (part_at 45 1 12 year.1) refl e

  date_step : reading.◌>>=◌ (date_of text text) k ≡ Err d → Named text d
  unfolding date_of
  date_step e = year_step (year_at text) refl e

-- ---- whole texts

abbrev behind_tdf : List ℕ → YearMonthDay → Clock → ℤ × List ℕ → Result Moment TextFault
behind_tdf text date clock tdf = reading.◌>>=◌ (end_of text tdf.1) (λ inaccuracy. Ok (record {
  civil = civil_of date clock;
  tdf = tdf.0;
  inaccuracy = inaccuracy;
}))

abbrev behind_clock : List ℕ → YearMonthDay → Clock × List ℕ → Result Moment TextFault
behind_clock text date clock = reading.◌>>=◌ (tdf_of text clock.1) (behind_tdf text date clock.0)

abbrev behind_date : List ℕ → YearMonthDay × List ℕ → Result Moment TextFault
behind_date text date = reading.◌>>=◌ (clock_of text date.1) (behind_clock text date.0)

pub moment_fault : (text : List ℕ) (d : TextFault) → moment_of text ≡ Err d → Named text d
unfolding moment_of
moment_fault text d e =
    date_step text d (behind_date text) (λ date at_date.
    clock_step text d (behind_clock text date.0) (λ clock at_clock.
    tdf_step text d (behind_tdf text date.0 clock.0) (λ tdf at_end e.
    end_step text d tdf.1 at_end (err_kept (end_of text tdf.1) (λ inaccuracy. record {
      civil = civil_of date.0 clock.0;
      tdf = tdf.0;
      inaccuracy = inaccuracy;
    }) d e)) clock.1 at_clock) date.1 at_date) e

pub absolute_fault : (text : List ℕ) (r : Result Stamp TextFault) → r ≡ absolute_of text
    → IfErr r (λ fault. IsAbsoluteFault text fault)
unfolding absolute_of
absolute_fault text (Ok u) e = tt
absolute_fault text (Err d) e =
    let n = moment_fault text d (err_kept (moment_of text) (λ m. moment_stamp m) d (sym e)) in (n.left, n.wrong, n.is)
