-- The fault of a relative text is that its time is too long, or names its first wrong field.
use Rattle.std.proofs.Common.{◌≡◌, ◌⊎◌, inl, inr, ℕ, ◌+◌, ◌*◌, Bool, true, false, cond, nat_eq, List, [], ◌∷◌, ◌++◌, length, Option, Some, None, Result, Ok, Err, refl, sym, ap, subst, arith, ℤ, FitsSigned, w64}
use Rattle.std.specs.Prelude.{IfErr}
use Rattle.std.specs.Str.Parse.{digits_value}
use Rattle.utc_value.specs.Stamp.{Stamp}
use Rattle.utc_text.specs.declared.fault.TextField.{TextField}
use Rattle.utc_text.specs.declared.fault.TextField.TheVariants.{Sign, Days, Hour, Minute, Second, Fraction, Inaccuracy, Tail}
use Rattle.utc_text.specs.declared.fault.TextFault.{TextFault}
use Rattle.utc_text.specs.Civil.{clock_units}
use Rattle.utc_text.specs.Fields.{part_at, fraction_at, inaccuracy_at, days_at}
use Rattle.utc_text.specs.Reading.{Clock, Length, right_at, clock_of, end_of, sign_at, fits_time, time_of, length_of, relative_of, length_stamp}
use Rattle.utc_text.specs.FirstWrong.{fault_at, IsTooLong, IsRelativeFault}
use Rattle.utc_text.specs.Grammar.{signed, RelativeFields, fraction_units, inaccuracy_said, Unstated, relative_units, Stand, RelativeStands, time_order, relative_order}
use Rattle.utc_text.specs.Reading as reading
use Rattle.utc_text.proofs.Again.{fits_again}
use Rattle.utc_text.proofs.FieldsTaken.{fraction_takes}
use Rattle.utc_text.proofs.InaccuracyTaken.{inaccuracy_takes}
use Rattle.utc_text.proofs.TextsTaken.{days_takes, sign_takes, fits_taken}
use Rattle.utc_text.proofs.Standing.{part_reads, part_stands, fraction_reads, inaccuracy_reads, sign_reads, days_reads}
use Rattle.utc_text.proofs.Reached.{Reached, Names, Reads, split, further, stuck, unread, err_is, err_kept, err_regrouped, tail_left, units_read, second_read, minute_read, hour_read}

abbrev At : List TextField → List ℕ → List ℕ → (RelativeFields → Type 0) → Type 0
At front text left agrees = Reached RelativeStands front text left agrees

abbrev pub NotLong : List ℕ → Type 0
NotLong text = (days : List ℕ) → IsTooLong text days → ⊥

-- ---- the end of a text whose time fits

-- the time is too long, or a field is the first wrong one
abbrev pub Told : List ℕ → TextFault → Type 0
Told text d =
    ((left : List ℕ) × IsTooLong text left × (d ≡ fault_at text Days left)) ⊎ (NotLong text × Names RelativeStands relative_order text d)

module _ (text : List ℕ) (d : TextFault) (short : NotLong text) (agrees : RelativeFields → Type 0) where
  tail_step : (said : Option ℕ) (left : List ℕ)
      → At (Sign ∷ Days ∷ Hour ∷ Minute ∷ Second ∷ Fraction ∷ Inaccuracy ∷ []) text left agrees
      → cond (nat_eq (length left) 0) (Ok said) (Err (fault_at text Tail left)) ≡ Err d → Told text d
  tail_step said left r e =
      let t = tail_left text said left d e in
      inr (short, unread {V = Unit {0}} {o = None} Tail [] (λ f. tt) r (λ other rest a s. absurd (t.0 s.0)) refl refl t.1)

  inaccuracy_step : (left : List ℕ) → At time_order text left agrees → (o : Option (Option ℕ × List ℕ)) → inaccuracy_at left ≡ o
      → reading.◌>>=◌ (right_at text Inaccuracy left o) (λ i. cond (nat_eq (length i.1) 0) (Ok i.0) (Err (fault_at text Tail i.1))) ≡ Err d
      → Told text d
  unfolding right_at
  inaccuracy_step left r None none e =
      inr (short, unread Inaccuracy (Tail ∷ []) (λ f. inaccuracy_said f.inaccuracy) r (λ other rest a s. inaccuracy_reads other.inaccuracy left rest s) none refl (sym (err_is e)))
  inaccuracy_step left r (Some i) some e =
      let t = inaccuracy_takes left i.0 i.1 some in
      tail_step i.0 i.1 (further Inaccuracy (λ f. inaccuracy_said f.inaccuracy) r (λ other rest a s. inaccuracy_reads other.inaccuracy left rest s) some (λ f a e. a) (record r.fields { inaccuracy = t.field }) r.before (t.right, t.ends, t.spelled)) e

  end_step : (left : List ℕ) → At time_order text left agrees → end_of text left ≡ Err d → Told text d
  unfolding end_of
  end_step left r e = inaccuracy_step left r (inaccuracy_at left) refl e

-- ---- the fields of the time

-- where a field of the time is not read, the time does not stand, and so it is not too long
never_long : {V : Type 0} {front : List TextField} {text left : List ℕ} {agrees : RelativeFields → Type 0} {o : Option (V × List ℕ)} (field : TextField) (back : List TextField) (said : RelativeFields → V)
    → At front text left agrees → Reads RelativeStands field left agrees said o → o ≡ None
    → time_order ≡ (front ++ field ∷ []) ++ back → NotLong text
never_long {front = front} {text = text} {left = left} {agrees = agrees} {o = o} field back said r reads none at days t =
    let p =
    split RelativeStands (front ++ field ∷ []) back t.fields text t.rest (subst (λ (order : List TextField). Stand RelativeStands order t.fields text t.rest) at t.time) in
    stuck RelativeStands front field text left agrees said o r reads none t.fields p.0 p.1

unread_time : {V : Type 0} {front : List TextField} {text left : List ℕ} {agrees : RelativeFields → Type 0} {o : Option (V × List ℕ)} {d : TextFault} (field : TextField) (back : List TextField) (said : RelativeFields → V)
    → At front text left agrees → Reads RelativeStands field left agrees said o → o ≡ None
    → time_order ≡ (front ++ field ∷ []) ++ back → relative_order ≡ front ++ field ∷ (back ++ Inaccuracy ∷ Tail ∷ [])
    → d ≡ fault_at text field left → Told text d
unread_time {text = text} {d = d} field back said r reads none at ordered is =
    inr (never_long field back said r reads none at, unread field (back ++ Inaccuracy ∷ Tail ∷ []) said r reads none ordered is)

-- what the fields say that stand so far
abbrev AtDays : Bool → ℕ → RelativeFields → Type 0
AtDays negative days f = (f.negative ≡ negative) × (digits_value 10 f.days ≡ days)

abbrev AtHour : Bool → ℕ → ℕ → RelativeFields → Type 0
AtHour negative days hour f = AtDays negative days f × (f.clock.hour ≡ hour)

abbrev AtMinute : Bool → ℕ → ℕ → ℕ → RelativeFields → Type 0
AtMinute negative days hour minute f = AtHour negative days hour f × (f.clock.minute ≡ minute)

abbrev AtSecond : Bool → ℕ → ℕ → ℕ → ℕ → RelativeFields → Type 0
AtSecond negative days hour minute second f = AtMinute negative days hour minute f × (f.clock.second ≡ second)

abbrev AtTime : Bool → ℕ → RelativeFields → Type 0
AtTime negative units f = (f.negative ≡ negative) × (relative_units f ≡ units)

abbrev units_in : ℕ → Clock → ℕ
units_in days clock = days * 864_000_000_000 + clock_units clock.hour clock.minute clock.second clock.units

time_said : (negative : Bool) (days hour minute second units : ℕ) (f : RelativeFields)
    → AtSecond negative days hour minute second f → fraction_units f.clock.fraction ≡ units
    → AtTime negative (days * 864_000_000_000 + clock_units hour minute second units) f
time_said negative days hour minute second units f a e =
    let from_days = a.0.0.0.1 in
    let from_hour = a.0.0.1 in
    let from_minute = a.0.1 in
    let from_second = a.1 in
    (a.0.0.0.0, rw (from_days, from_hour, from_minute, from_second, e) refl)

module _ {B : Type 0} (text : List ℕ) (d : TextFault) (k : Clock × List ℕ → Result B TextFault) (negative : Bool) (days : ℕ) (go : (clock : Clock × List ℕ) → At time_order text clock.1 (AtTime negative (units_in days clock.0)) → k clock ≡ Err d → Told text d) where
  fraction_step : (hour minute second : ℕ) (left : List ℕ)
      → At (Sign ∷ Days ∷ Hour ∷ Minute ∷ Second ∷ []) text left (AtSecond negative days hour minute second)
      → (o : Option (ℕ × List ℕ)) → fraction_at left ≡ o → reading.◌>>=◌ (units_read text hour minute second left o) k ≡ Err d
      → Told text d
  unfolding right_at
  fraction_step hour minute second left r None none e =
      unread_time Fraction [] (λ f. fraction_units f.clock.fraction) r (λ other rest a s. fraction_reads other.clock.fraction left rest s) none refl refl (sym (err_is e))
  fraction_step hour minute second left r (Some units) some e =
      let t = fraction_takes left units.0 units.1 some in
      go (
        record {
          hour = hour;
          minute = minute;
          second = second;
          units = units.0;
        },
        units.1,
      ) (further Fraction (λ f. fraction_units f.clock.fraction) r (λ other rest a s. fraction_reads other.clock.fraction left rest s) some (λ f a e. time_said negative days hour minute second units.0 f a e) (record r.fields { clock = record r.fields.clock { fraction = t.fraction } }) r.before (t.right, t.ends, t.spelled)) e

  second_step : (hour minute : ℕ) (left : List ℕ)
      → At (Sign ∷ Days ∷ Hour ∷ Minute ∷ []) text left (AtMinute negative days hour minute) → (o : Option (ℕ × List ℕ))
      → part_at 58 0 59 left ≡ o → reading.◌>>=◌ (second_read text hour minute left o) k ≡ Err d → Told text d
  unfolding right_at
  second_step hour minute left r None none e =
      unread_time Second (Fraction ∷ []) (λ f. f.clock.second) r (λ other rest a s. part_reads 58 0 59 other.clock.second left rest (omega arith) s) none refl refl (sym (err_is e))
  second_step hour minute left r (Some second) some e =
      fraction_step hour minute second.0 second.1 (further Second (λ f. f.clock.second) r (λ other rest a s. part_reads 58 0 59 other.clock.second left rest (omega arith) s) some (λ f a e. (a, e)) (record r.fields { clock = record r.fields.clock { second = second.0 } }) r.before (part_stands 58 0 59 second.0 left second.1 some)) (fraction_at second.1) refl e

  minute_step : (hour : ℕ) (left : List ℕ) → At (Sign ∷ Days ∷ Hour ∷ []) text left (AtHour negative days hour)
      → (o : Option (ℕ × List ℕ)) → part_at 58 0 59 left ≡ o → reading.◌>>=◌ (minute_read text hour left o) k ≡ Err d
      → Told text d
  unfolding right_at
  minute_step hour left r None none e =
      unread_time Minute (Second ∷ Fraction ∷ []) (λ f. f.clock.minute) r (λ other rest a s. part_reads 58 0 59 other.clock.minute left rest (omega arith) s) none refl refl (sym (err_is e))
  minute_step hour left r (Some minute) some e =
      second_step hour minute.0 minute.1 (further Minute (λ f. f.clock.minute) r (λ other rest a s. part_reads 58 0 59 other.clock.minute left rest (omega arith) s) some (λ f a e. (a, e)) (record r.fields { clock = record r.fields.clock { minute = minute.0 } }) r.before (part_stands 58 0 59 minute.0 left minute.1 some)) (part_at 58 0 59 minute.1) refl e

  hour_step : (left : List ℕ) → At (Sign ∷ Days ∷ []) text left (AtDays negative days) → (o : Option (ℕ × List ℕ))
      → part_at 45 0 23 left ≡ o → reading.◌>>=◌ (hour_read text left o) k ≡ Err d → Told text d
  unfolding right_at
  hour_step left r None none e =
      unread_time Hour (Minute ∷ Second ∷ Fraction ∷ []) (λ f. f.clock.hour) r (λ other rest a s. part_reads 45 0 23 other.clock.hour left rest (omega arith) s) none refl refl (sym (err_is e))
  hour_step left r (Some hour) some e =
      minute_step hour.0 hour.1 (further Hour (λ f. f.clock.hour) r (λ other rest a s. part_reads 45 0 23 other.clock.hour left rest (omega arith) s) some (λ f a e. (a, e)) (record r.fields { clock = record r.fields.clock { hour = hour.0 } }) r.before (part_stands 45 0 23 hour.0 left hour.1 some)) (part_at 58 0 59 hour.1) refl e

  clock_step : (left : List ℕ) → At (Sign ∷ Days ∷ []) text left (AtDays negative days)
      → reading.◌>>=◌ (clock_of text left) k ≡ Err d → Told text d
  unfolding clock_of
  clock_step left r e = hour_step left r (part_at 45 0 23 left) refl e

-- the sign stands in every text
sign_there : (text : List ℕ) → At (Sign ∷ []) text (sign_at text).1 (λ f. f.negative ≡ (sign_at text).0)
sign_there text =
    let none_yet : RelativeFields =
    record {
      negative = (sign_at text).0;
      days = [];
      clock = record { hour = 0; minute = 0; second = 0; fraction = None };
      inaccuracy = Unstated;
    } in
    let nothing : At [] text text (λ f. Unit {0}) = record { fields = none_yet; before = refl; same = λ other rest s. (sym s, tt) } in
    further {o = Some (sign_at text)} {x = sign_at text} Sign (λ f. f.negative) nothing (λ other rest a s. ap (λ (x : Bool × List ℕ). Some x) (sign_reads other.negative text rest s)) refl (λ f a e. e) none_yet refl (sign_takes text)

-- ---- a time that stands, and fits or does not

too_many : (n m : Bool) (u v : ℕ) → n ≡ m → u ≡ v → fits_time m v ≡ false → FitsSigned w64 (signed n u) → ⊥
too_many n m u v a b unfit fits =
    let fit = fits_again n u fits in
    let not_so : fits_time n u ≡ false = rw (a, b) unfit in
    absurd cc

few_enough : (n m : Bool) (u v : ℕ) → n ≡ m → u ≡ v → fits_time m v ≡ true → FitsSigned w64 (signed n u)
few_enough n m u v a b fit = rw (a, b) (fits_taken m v fit)

too_long : (text : List ℕ) (negative : Bool) (units : ℕ) (rest : List ℕ) → At time_order text rest (AtTime negative units)
    → fits_time negative units ≡ false → IsTooLong text (sign_at text).1
too_long text negative units rest r unfit =
    let p = split RelativeStands (Sign ∷ []) (Days ∷ Hour ∷ Minute ∷ Second ∷ Fraction ∷ []) r.fields text rest r.before in
    let q = (sign_there text).same r.fields p.0 p.1 in
    let own = (r.same r.fields rest r.before).1 in
    record {
      fields = r.fields;
      rest = rest;
      sign = subst (λ (x : List ℕ). Stand RelativeStands (Sign ∷ []) r.fields text x) q.0 p.1;
      time = r.before;
      long = too_many r.fields.negative negative (relative_units r.fields) units own.0 own.1 unfit;
    }

not_long : (text : List ℕ) (negative : Bool) (units : ℕ) (rest : List ℕ) → At time_order text rest (AtTime negative units)
    → fits_time negative units ≡ true → NotLong text
not_long text negative units rest r fit days t =
    let its = (r.same t.fields t.rest t.time).1 in
    t.long (few_enough t.fields.negative negative (relative_units t.fields) units its.0 its.1 fit)

module _ (text : List ℕ) (d : TextFault) where
  abbrev behind_time : ℤ × List ℕ → Result Length TextFault
  behind_time time = reading.◌>>=◌ (end_of text time.1) (λ inaccuracy. Ok (record { time = time.0; inaccuracy = inaccuracy }))

  abbrev behind_clock : ℕ → Clock × List ℕ → Result (ℤ × List ℕ) TextFault
  behind_clock days clock = cond (fits_time (sign_at text).0 (units_in days clock.0)) (Ok (signed (sign_at text).0 (units_in days clock.0), clock.1)) (Err (fault_at text Days (sign_at text).1))

  fits_step : (units : ℕ) (rest : List ℕ) → At time_order text rest (AtTime (sign_at text).0 units) → (test : Bool)
      → fits_time (sign_at text).0 units ≡ test
      → reading.◌>>=◌ (cond test (Ok (signed (sign_at text).0 units, rest)) (Err (fault_at text Days (sign_at text).1))) behind_time ≡ Err d
      → Told text d
  fits_step units rest r false unfit e = inl ((sign_at text).1, too_long text (sign_at text).0 units rest r unfit, sym (err_is e))
  fits_step units rest r true fit e =
      end_step text d (not_long text (sign_at text).0 units rest r fit) (AtTime (sign_at text).0 units) rest r (err_kept (end_of text rest) (λ inaccuracy. record {
        time = signed (sign_at text).0 units;
        inaccuracy = inaccuracy;
      }) d e)

  days_step : (o : Option (ℕ × List ℕ)) → days_at (sign_at text).1 ≡ o
      → reading.◌>>=◌ (reading.◌>>=◌ (right_at text Days (sign_at text).1 o) (λ days. reading.◌>>=◌ (clock_of text days.1) (behind_clock days.0))) behind_time ≡ Err d
      → Told text d
  unfolding right_at
  days_step None none e =
      unread_time Days (Hour ∷ Minute ∷ Second ∷ Fraction ∷ []) (λ f. digits_value 10 f.days) (sign_there text) (λ other rest a s. days_reads other.days (sign_at text).1 rest s) none refl refl (sym (err_is e))
  days_step (Some days) some e =
      let r = sign_there text in
      let t = days_takes (sign_at text).1 days.0 days.1 some in
      clock_step text d (λ clock. reading.◌>>=◌ (behind_clock days.0 clock) behind_time) (sign_at text).0 days.0 (λ clock at_time. fits_step (units_in days.0 clock.0) clock.1 at_time (fits_time (sign_at text).0 (units_in days.0 clock.0)) refl) days.1 (further Days (λ f. digits_value 10 f.days) r (λ other rest a s. days_reads other.days (sign_at text).1 rest s) some (λ f a e. (a, e)) (record r.fields { days = t.field }) r.before (t.right, t.ends, t.spelled)) (err_regrouped (clock_of text days.1) (behind_clock days.0) behind_time d e)

  pub length_fault : length_of text ≡ Err d → Told text d
  unfolding length_of time_of
  length_fault e = days_step (days_at (sign_at text).1) refl e

told : (text : List ℕ) (d : TextFault) → Told text d → IsRelativeFault text d
told text d (inl long) = (long.0, inl (long.1, long.2))
told text d (inr n) = (n.1.left, inr (n.0, n.1.wrong, n.1.is))

pub relative_fault : (text : List ℕ) (r : Result Stamp TextFault) → r ≡ relative_of text
    → IfErr r (λ fault. IsRelativeFault text fault)
unfolding relative_of
relative_fault text (Ok u) e = tt
relative_fault text (Err d) e = told text d (length_fault text d (err_kept (length_of text) (λ l. length_stamp l) d (sym e)))
