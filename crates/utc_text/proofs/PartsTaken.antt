-- What is read of a date, a time of day and a time differential factor is spelled by the grammar.
use Rattle.std.proofs.Common.{◌≡◌, ℕ, ◌+◌, ◌*◌, ◌≤◌, Bool, true, false, cond, nat_eq, nat_le, ◌||◌, List, [], ◌∷◌, ◌++◌, Option, Some, None, Ok, refl, sym, ap, subst, ◌∙◌, arith, ℤ, pos}
use Rattle.std.proofs.lemmas.Bool.{leb-true, eqb-true}
use Rattle.jiff_core.specs.Calendar.{days_in_month}
use Rattle.utc_text.specs.Fields.{behind, two_digits, part_at, year_at, digits_at, fraction_at, tdf_hour_at, seconds_at, stated_at, inaccuracy_at, days_at}
use Rattle.utc_text.specs.Grammar.{YearMonthDay, signed, digits, fraction_units, ClockField, TdfField, tdf_said, TdfHourStands}
use Rattle.utc_text.specs.Reading.{Clock, date_of, clock_of, tdf_minute_of, tdf_of}
use Rattle.utc_text.specs.Written.{EndsTdf, date_text, IsDateField, clock_text, IsClockField, clock_said, tdf_text, IsTdfField}
use Rattle.utc_text.specs.Fields as fields
use Rattle.utc_text.proofs.Steps.{guard_some, bind_some, both_in, ok_is, some_first, some_second, right_ok, bind_ok}
use Rattle.utc_text.proofs.Regrouped.{cons_spelled, date_spelled, clock_spelled, tdf_spelled}
use Rattle.utc_text.proofs.FieldsTaken.{two_digits_takes, part_takes, year_takes, fraction_takes}

-- a date that is read is right and spelled
pub date_takes : (text left : List ℕ) (d : YearMonthDay) (rest : List ℕ) → date_of text left ≡ Ok (d, rest)
    → IsDateField d × (left ≡ date_text d ++ rest)
unfolding date_of
date_takes text left d rest e =
    let a = bind_ok _ _ (d, rest) e in
    let b = bind_ok _ _ (d, rest) a.2 in
    let c = bind_ok _ _ (d, rest) b.2 in
    let year = year_takes left a.0.0 a.0.1 (right_ok _ _ _ _ _ a.1) in
    let month = part_takes 45 1 12 a.0.1 b.0.0 b.0.1 (right_ok _ _ _ _ _ b.1) in
    let day = part_takes 45 1 (days_in_month (pos a.0.0) b.0.0) b.0.1 c.0.0 c.0.1 (right_ok _ _ _ _ _ c.1) in
    let made : YearMonthDay = record { year = a.0.0; month = b.0.0; day = c.0.0 } in
    let spelled : left ≡ date_text made ++ c.0.1 = date_spelled left a.0.1 b.0.1 c.0.1 made year.0 month.0 day.0 in
    subst (λ (y : YearMonthDay × List ℕ). IsDateField y.0 × (left ≡ date_text y.0 ++ y.1)) (ok_is _ _ c.2) (
      record {
        year = year.1;
        month = (month.1, month.2);
        day = (day.1, day.2);
      },
      spelled,
    )

-- a time of day of its parts
abbrev clock_made : ℕ → ℕ → ℕ → ℕ → Clock
clock_made hour minute second units = record { hour = hour; minute = minute; second = second; units = units }

-- equal units make equal times of day
clock_same : (hour minute second u v : ℕ) → u ≡ v → clock_made hour minute second u ≡ clock_made hour minute second v
clock_same hour minute second u v e = ap (λ (x : ℕ). clock_made hour minute second x) e

-- a time of day that was read: the field that spells it
pub record ClockTaken (left : List ℕ) (clock : Clock) (rest : List ℕ) : Type 0 where
  pub field : ClockField
  pub right : IsClockField field
  pub spelled : left ≡ clock_text field ++ rest
  pub said : clock ≡ clock_said field

-- a time of day
pub clock_takes : (text left : List ℕ) (k : Clock) (rest : List ℕ) → clock_of text left ≡ Ok (k, rest) → ClockTaken left k rest
unfolding clock_of
clock_takes text left k rest e =
    let a = bind_ok _ _ (k, rest) e in
    let b = bind_ok _ _ (k, rest) a.2 in
    let c = bind_ok _ _ (k, rest) b.2 in
    let d = bind_ok _ _ (k, rest) c.2 in
    let hour = part_takes 45 0 23 left a.0.0 a.0.1 (right_ok _ _ _ _ _ a.1) in
    let minute = part_takes 58 0 59 a.0.1 b.0.0 b.0.1 (right_ok _ _ _ _ _ b.1) in
    let second = part_takes 58 0 59 b.0.1 c.0.0 c.0.1 (right_ok _ _ _ _ _ c.1) in
    let units = fraction_takes c.0.1 d.0.0 d.0.1 (right_ok _ _ _ _ _ d.1) in
    let field : ClockField = record { hour = a.0.0; minute = b.0.0; second = c.0.0; fraction = units.fraction } in
    let spelled : left ≡ clock_text field ++ d.0.1 =
    clock_spelled left a.0.1 b.0.1 c.0.1 d.0.1 field hour.0 minute.0 second.0 units.spelled in
    let made : Clock = record { hour = a.0.0; minute = b.0.0; second = c.0.0; units = d.0.0 } in
    let said : made ≡ clock_said field = clock_same a.0.0 b.0.0 c.0.0 d.0.0 (fraction_units units.fraction) units.said in
    subst (λ (y : Clock × List ℕ). ClockTaken left y.0 y.1) (ok_is _ _ d.2) (record {
      field = field;
      right = record { hour = hour.2; minute = minute.2; second = second.2; fraction = units.right };
      spelled = spelled;
      said = said;
    })

-- a factor that was read: the field that spells it
pub record TdfTaken (left : List ℕ) (tdf : ℤ) (rest : List ℕ) : Type 0 where
  pub field : Option TdfField
  pub right : IsTdfField field
  pub spelled : left ≡ tdf_text field ++ rest
  pub said : tdf ≡ tdf_said field

-- its sign and hours
pub record HourTaken (left : List ℕ) (west : Bool) (hours : ℕ) (rest : List ℕ) : Type 0 where
  pub right : hours ≤ 23
  pub spelled : left ≡ cond west 45 43 ∷ digits 2 hours ++ rest

-- hours behind a sign
hour_behind : (first : ℕ) (left : List ℕ) (west : Bool) (w : Bool) (h : ℕ) (rest : List ℕ) → first ≡ cond west 45 43
    → fields.◌>>=◌ {B = Option (Bool × ℕ) × List ℕ} (two_digits left) (λ hours. cond (nat_le hours.0 23) (Some (Some (west, hours.0), hours.1)) None) ≡ Some (Some (w, h), rest)
    → HourTaken (first ∷ left) w h rest
hour_behind first left west w h rest sign e =
    let a = bind_some _ _ (Some (w, h), rest) e in
    let g = guard_some _ _ _ a.2 in
    let taken = two_digits_takes left a.0.0 a.0.1 a.1 in
    let made : Option (Bool × ℕ) = Some (west, a.0.0) in
    let pair : both_in west a.0.0 ≡ both_in w h = ap (λ (p : Option (Bool × ℕ) × List ℕ). p.0) g.1 in
    let same : a.0.1 ≡ rest = ap (λ (p : Option (Bool × ℕ) × List ℕ). p.1) g.1 in
    let side : west ≡ w = some_first _ _ _ _ pair in
    let hours : a.0.0 ≡ h = some_second _ _ _ _ pair in
    record {
      right = rw hours at (leb-true a.0.0 23 g.0);
      spelled = cons_spelled first (cond w 45 43) left (digits 2 h) a.0.1 rest (sign ∙ ap (λ (b : Bool). cond b 45 43) side) (taken.0 ∙ ap (λ (n : ℕ). digits 2 n ++ a.0.1) hours) same;
    }

-- nothing is no sign and hours
no_hour : (w : Bool) (h : ℕ) (bs rest : List ℕ) (o : Option (Bool × ℕ)) → o ≡ None → both_in o bs ≡ both_in (Some (w, h)) rest → ⊥
no_hour w h bs rest o n e =
    let e' : o ≡ Some (w, h) = some_first _ _ _ _ e in
    absurd cc

-- hours behind an octet that may be a sign
hour_tested : (first : ℕ) (left : List ℕ) (east west : Bool) (w : Bool) (h : ℕ) (rest : List ℕ) → nat_eq first 43 ≡ east
    → nat_eq first 45 ≡ west
    → cond (east || west) (fields.◌>>=◌ {B = Option (Bool × ℕ) × List ℕ} (two_digits left) (λ hours. cond (nat_le hours.0 23) (Some (Some (west, hours.0), hours.1)) None)) (Some (None, first ∷ left)) ≡ Some (Some (w, h), rest)
    → HourTaken (first ∷ left) w h rest
hour_tested first left true true w h rest p q e = let a = eqb-true first 43 p in let b = eqb-true first 45 q in absurd (omega arith)
hour_tested first left true false w h rest p q e = hour_behind first left false w h rest (eqb-true first 43 p) e
hour_tested first left false true w h rest p q e = hour_behind first left true w h rest (eqb-true first 45 q) e
hour_tested first left false false w h rest p q e = absurd (no_hour w h (first ∷ left) rest None refl e)

-- a sign and hours
pub hour_takes : (left : List ℕ) (w : Bool) (h : ℕ) (rest : List ℕ) → tdf_hour_at left ≡ Some (Some (w, h), rest)
    → HourTaken left w h rest
unfolding tdf_hour_at
hour_takes [] w h rest e = absurd (no_hour w h [] rest None refl e)
hour_takes (first ∷ left) w h rest e = hour_tested first left (nat_eq first 43) (nat_eq first 45) w h rest refl refl e

-- behind a sign hours are never left out
absent_behind : (left : List ℕ) (west : Bool) (rest : List ℕ)
    → fields.◌>>=◌ {B = Option (Bool × ℕ) × List ℕ} (two_digits left) (λ hours. cond (nat_le hours.0 23) (Some (Some (west, hours.0), hours.1)) None) ≡ Some (None, rest)
    → ⊥
absent_behind left west rest e =
    let a = bind_some (two_digits left) (λ hours. cond (nat_le hours.0 23) (Some (Some (west, hours.0), hours.1)) None) (None, rest) e in
    let g = guard_some (nat_le a.0.0 23) (Some (west, a.0.0), a.0.1) (None, rest) a.2 in
    let none : both_in west a.0.0 ≡ None = ap (λ (p : Option (Bool × ℕ) × List ℕ). p.0) g.1 in
    absurd cc

-- where hours are left out, no sign stands
absent_tested : (first : ℕ) (left : List ℕ) (east west : Bool) (rest : List ℕ) → nat_eq first 43 ≡ east → nat_eq first 45 ≡ west
    → cond (east || west) (fields.◌>>=◌ {B = Option (Bool × ℕ) × List ℕ} (two_digits left) (λ hours. cond (nat_le hours.0 23) (Some (Some (west, hours.0), hours.1)) None)) (Some (None, first ∷ left)) ≡ Some (None, rest)
    → TdfHourStands None (first ∷ left) rest
absent_tested first left true west rest p q e = absurd (absent_behind left west rest e)
absent_tested first left false true rest p q e = absurd (absent_behind left true rest e)
absent_tested first left false false rest p q e =
    let same : first ∷ left ≡ rest = some_second _ _ _ _ e in
    let none : EndsTdf None (first ∷ left) = rw (p, q) refl in
    (subst (λ (x : List ℕ). EndsTdf None x) same none, same)

-- and so in every text
pub hour_absent : (left : List ℕ) (rest : List ℕ) → tdf_hour_at left ≡ Some (None, rest) → TdfHourStands None left rest
unfolding tdf_hour_at
hour_absent [] rest e = let same : [] ≡ rest = some_second _ _ _ _ e in (subst (λ (x : List ℕ). EndsTdf None x) same tt, same)
hour_absent (first ∷ left) rest e = absent_tested first left (nat_eq first 43) (nat_eq first 45) rest refl refl e

-- the minutes behind what stands of the hours
tdf_behind : (text left : List ℕ) (o : Option (Bool × ℕ)) (middle : List ℕ) (tdf : ℤ) (rest : List ℕ)
    → tdf_hour_at left ≡ Some (o, middle) → tdf_minute_of text middle o ≡ Ok (tdf, rest) → TdfTaken left tdf rest
unfolding tdf_minute_of
tdf_behind text left None middle tdf rest h e =
    let both = ok_is _ _ e in
    let same : middle ≡ rest = ap (λ (p : ℤ × List ℕ). p.1) both in
    let value : pos 0 ≡ tdf = ap (λ (p : ℤ × List ℕ). p.0) both in
    record { field = None; right = tt; spelled = (hour_absent left middle h).1 ∙ same; said = sym value }
tdf_behind text left (Some (w, n)) middle tdf rest h e =
    let a = bind_ok _ _ (tdf, rest) e in
    let hour = hour_takes left w n middle h in
    let minute = part_takes 58 0 59 middle a.0.0 a.0.1 (right_ok _ _ _ _ _ a.1) in
    let both = ok_is _ _ a.2 in
    let same : a.0.1 ≡ rest = ap (λ (p : ℤ × List ℕ). p.1) both in
    let value : signed w (n * 60 + a.0.0) ≡ tdf = ap (λ (p : ℤ × List ℕ). p.0) both in
    let field : TdfField = record { west = w; hours = n; minutes = a.0.0 } in
    let spelled : left ≡ tdf_text (Some field) ++ rest = tdf_spelled left middle a.0.1 rest field hour.spelled minute.0 same in
    record { field = Some field; right = (hour.right, minute.2); spelled = spelled; said = sym value }

-- a time differential factor
pub tdf_takes : (text left : List ℕ) (tdf : ℤ) (rest : List ℕ) → tdf_of text left ≡ Ok (tdf, rest) → TdfTaken left tdf rest
unfolding tdf_of
tdf_takes text left tdf rest e =
    let a = bind_ok _ _ (tdf, rest) e in
    tdf_behind text left a.0.0 a.0.1 tdf rest (right_ok _ _ _ _ _ a.1) a.2
