-- What is read of a whole text is spelled by the grammar.
use Rattle.std.proofs.Common.{◌≡◌, ℕ, zero, suc, ◌+◌, ◌*◌, ◌^◌, Bool, true, false, cond, nat_eq, nat_le, List, [], ◌∷◌, ◌++◌, length, Option, Some, Ok, Err, refl, sym, ap, subst, ◌∙◌, arith, append_assoc, ℤ, FitsSigned, w64}
use Rattle.std.proofs.lemmas.Bool.{leb-true, ltb-true, eqb-true, and_parts}
use Rattle.std.specs.Char.{is_ascii_digit}
use Rattle.std.specs.Str.Parse.{digits_value}
use Rattle.jiff_core.proofs.SignedLemmas.{signed_arith}
use Rattle.utc_text.specs.declared.fault.TextFault.{TextFault}
use Rattle.utc_text.specs.Fields.{days_at}
use Rattle.utc_text.specs.Grammar.{YearMonthDay, signed, ClockField, tdf_said, inaccuracy_text, inaccuracy_said, AbsoluteFields, IsDaysField, RelativeFields, BeginsNot, SignStands}
use Rattle.utc_text.specs.Reading.{Clock, Moment, Length, moment_of, sign_at, fits_time, time_of, length_of, civil_of}
use Rattle.utc_text.specs.Written.{date_text, clock_text, IsClockField, clock_said, tdf_text, absolute_text, IsAbsolute, absolute_said, sign_text, relative_text, IsRelative, relative_said}
use Rattle.utc_text.specs.Civil.{clock_units}
use Rattle.utc_text.proofs.Steps.{guard_some, bind_some, ok_is, right_ok, bind_ok}
use Rattle.utc_text.proofs.Regrouped.{sign_spelled}
use Rattle.utc_text.proofs.FieldsTaken.{digits_takes}
use Rattle.utc_text.proofs.PartsTaken.{date_takes, clock_takes, tdf_takes}
use Rattle.utc_text.proofs.InaccuracyTaken.{end_takes}

-- what an absolute text says, of its parts
abbrev moment_made : YearMonthDay → Clock → ℤ → Option ℕ → Moment
moment_made date clock tdf inaccuracy = record { civil = civil_of date clock; tdf = tdf; inaccuracy = inaccuracy }

-- equal parts say the same
moment_same : (date : YearMonthDay) (k k' : Clock) (t t' : ℤ) (i i' : Option ℕ) → k ≡ k' → t ≡ t' → i ≡ i'
    → moment_made date k t i ≡ moment_made date k' t' i'
moment_same date k k' t t' i i' a b c = rw (a, b, c) refl

-- an absolute text that is read is that of right fields
pub absolute_takes : (text : List ℕ) (m : Moment) → moment_of text ≡ Ok m
    → (f : AbsoluteFields) × IsAbsolute f × (text ≡ absolute_text f) × (m ≡ absolute_said f)
unfolding moment_of
absolute_takes text m e =
    let a = bind_ok _ _ m e in
    let b = bind_ok _ _ m a.2 in
    let c = bind_ok _ _ m b.2 in
    let d = bind_ok _ _ m c.2 in
    let date = date_takes text text a.0.0 a.0.1 a.1 in
    let clock = clock_takes text a.0.1 b.0.0 b.0.1 b.1 in
    let tdf = tdf_takes text b.0.1 c.0.0 c.0.1 c.1 in
    let end = end_takes text c.0.1 d.0 d.1 in
    let f : AbsoluteFields = record { date = a.0.0; clock = clock.field; tdf = tdf.field; inaccuracy = end.field } in
    let grouped : text ≡ date_text a.0.0 ++ (clock_text clock.field ++ (tdf_text tdf.field ++ inaccuracy_text end.field)) =
    date.1
    ∙ ap (λ (x : List ℕ). date_text a.0.0 ++ x) (clock.spelled ∙ ap (λ (x : List ℕ). clock_text clock.field ++ x) (tdf.spelled ∙ ap (λ (x : List ℕ). tdf_text tdf.field ++ x) end.spelled)) in
    let regrouped : absolute_text f ≡ date_text a.0.0 ++ (clock_text clock.field ++ (tdf_text tdf.field ++ inaccuracy_text end.field)) =
    append_assoc (date_text a.0.0 ++ clock_text clock.field) (tdf_text tdf.field) (inaccuracy_text end.field)
    ∙ append_assoc (date_text a.0.0) (clock_text clock.field) (tdf_text tdf.field ++ inaccuracy_text end.field) in
    let made : Moment = record { civil = civil_of a.0.0 b.0.0; tdf = c.0.0; inaccuracy = d.0 } in
    let said : made ≡ absolute_said f =
    moment_same a.0.0 b.0.0 (clock_said clock.field) c.0.0 (tdf_said tdf.field) d.0 (inaccuracy_said end.field) clock.said tdf.said end.said in (
      f,
      record {
        date = date.0;
        clock = clock.right;
        tdf = tdf.right;
        inaccuracy = end.right;
      },
      grouped ∙ sym regrouped,
      sym (ok_is _ _ d.2) ∙ said,
    )

-- days that were read: the digits that spell them
pub record DaysTaken (left : List ℕ) (days : ℕ) (rest : List ℕ) : Type 0 where
  pub field : List ℕ
  pub right : IsDaysField field
  pub ends : BeginsNot is_ascii_digit rest
  pub spelled : left ≡ field ++ rest
  pub said : days ≡ digits_value 10 field

-- days
pub days_takes : (left : List ℕ) (n : ℕ) (rest : List ℕ) → days_at left ≡ Some (n, rest) → DaysTaken left n rest
unfolding days_at
days_takes left n rest e =
    let a = bind_some _ _ (n, rest) e in
    let g = guard_some _ _ _ a.2 in
    let tests = and_parts (nat_le 1 (length a.0.0)) (nat_le (digits_value 10 a.0.0) 10_675_199) g.0 in
    let whole = digits_takes 8 left a.0.0 a.0.1 a.1 in
    let value : digits_value 10 a.0.0 ≡ n = ap (λ (p : ℕ × List ℕ). p.0) g.1 in
    let same : a.0.1 ≡ rest = ap (λ (p : ℕ × List ℕ). p.1) g.1 in
    record {
      field = a.0.0;
      right = (whole.1, leb-true 1 (length a.0.0) tests.0, whole.2, leb-true (digits_value 10 a.0.0) 10_675_199 tests.1);
      ends = subst (λ (x : List ℕ). BeginsNot is_ascii_digit x) same whole.3;
      spelled = whole.0 ∙ ap (λ (x : List ℕ). a.0.0 ++ x) same;
      said = sym value;
    }

-- a sign by the test of the first octet
abbrev sign_pair : Bool → List ℕ → List ℕ → Bool × List ℕ
sign_pair test first rest = cond test (true, rest) (false, first)

-- a sign that was read stands
abbrev pub SignTaken : List ℕ → Bool × List ℕ → Type 0
SignTaken text s = SignStands s.0 text s.1

-- a sign behind that test
sign_tested : (first : ℕ) (left : List ℕ) (test : Bool) → nat_eq first 45 ≡ test
    → SignTaken (first ∷ left) (sign_pair test (first ∷ left) left)
sign_tested first left true t = ap (λ (x : ℕ). x ∷ left) (eqb-true first 45 t)
sign_tested first left false t = (t, refl)

-- a sign
pub sign_takes : (text : List ℕ) → SignTaken text (sign_at text)
unfolding sign_at
sign_takes [] = (tt, refl)
sign_takes (first ∷ left) = sign_tested first left (nat_eq first 45) refl

-- a time that passes the test of its size fits 64 bits
pub fits_taken : (negative : Bool) (units : ℕ) → fits_time negative units ≡ true → FitsSigned w64 (signed negative units)
fits_taken true zero e = omega (arith, signed_arith)
fits_taken true (suc units) e = omega (arith, signed_arith, leb-true (suc units) (2 ^ 63) e)
fits_taken false units e = omega (arith, signed_arith, ltb-true units (2 ^ 63) e)

-- the units of days and a time of day
abbrev units_in : ℕ → Clock → ℕ
units_in days clock = days * 864_000_000_000 + clock_units clock.hour clock.minute clock.second clock.units

-- equal parts have equal units
units_same : (n n' : ℕ) (k k' : Clock) → n ≡ n' → k ≡ k' → units_in n k ≡ units_in n' k'
units_same n n' k k' a b = rw (a, b) refl

-- a guarded time that is there passed its test
guard_time : (b : Bool) (d : TextFault) (x y : ℤ × List ℕ) → cond b (Ok x) (Err d) ≡ Ok y → (b ≡ true) × (x ≡ y)
guard_time true d x y e = (refl, ok_is _ _ e)
guard_time false d x y e = absurd cc

-- a time that was read: the fields that spell it
pub record TimeTaken (negative : Bool) (left : List ℕ) (time : ℤ) (rest : List ℕ) : Type 0 where
  pub days : List ℕ
  pub clock : ClockField
  pub days_right : IsDaysField days
  pub clock_right : IsClockField clock
  pub fits : FitsSigned w64 (signed negative (units_in (digits_value 10 days) (clock_said clock)))
  pub spelled : left ≡ days ++ (clock_text clock ++ rest)
  pub said : time ≡ signed negative (units_in (digits_value 10 days) (clock_said clock))

-- the time of a relative text
time_takes : (text : List ℕ) (negative : Bool) (left : List ℕ) (time : ℤ) (rest : List ℕ)
    → time_of text negative left ≡ Ok (time, rest) → TimeTaken negative left time rest
unfolding time_of
time_takes text negative left time rest e =
    let a = bind_ok _ _ (time, rest) e in
    let b = bind_ok _ _ (time, rest) a.2 in
    let g = guard_time _ _ _ _ b.2 in
    let days = days_takes left a.0.0 a.0.1 (right_ok _ _ _ _ _ a.1) in
    let clock = clock_takes text a.0.1 b.0.0 b.0.1 b.1 in
    let units = units_same a.0.0 (digits_value 10 days.field) b.0.0 (clock_said clock.field) days.said clock.said in
    let value : signed negative (units_in a.0.0 b.0.0) ≡ time = ap (λ (p : ℤ × List ℕ). p.0) g.1 in
    let same : b.0.1 ≡ rest = ap (λ (p : ℤ × List ℕ). p.1) g.1 in
    let fits : FitsSigned w64 (signed negative (units_in (digits_value 10 days.field) (clock_said clock.field))) =
    subst (λ (u : ℕ). FitsSigned w64 (signed negative u)) units (fits_taken negative (units_in a.0.0 b.0.0) g.0) in
    record {
      days = days.field;
      clock = clock.field;
      days_right = days.right;
      clock_right = clock.right;
      fits = fits;
      spelled = days.spelled
          ∙ ap (λ (x : List ℕ). days.field ++ x) (clock.spelled ∙ ap (λ (x : List ℕ). clock_text clock.field ++ x) same);
      said = sym value ∙ ap (λ (u : ℕ). signed negative u) units;
    }

-- what a relative text says, of its parts
abbrev length_made : ℤ → Option ℕ → Length
length_made time inaccuracy = record { time = time; inaccuracy = inaccuracy }

-- equal parts say the same
length_same : (t t' : ℤ) (i i' : Option ℕ) → t ≡ t' → i ≡ i' → length_made t i ≡ length_made t' i'
length_same t t' i i' a b = rw (a, b) refl

-- a relative text that is read is that of right fields
pub relative_takes : (text : List ℕ) (l : Length) → length_of text ≡ Ok l
    → (f : RelativeFields) × IsRelative f × (text ≡ relative_text f) × (l ≡ relative_said f)
unfolding length_of
relative_takes text l e =
    let negative = (sign_at text).0 in
    let a = bind_ok _ _ l e in
    let b = bind_ok _ _ l a.2 in
    let time = time_takes text negative (sign_at text).1 a.0.0 a.0.1 a.1 in
    let end = end_takes text a.0.1 b.0 b.1 in
    let f : RelativeFields = record { negative = negative; days = time.days; clock = time.clock; inaccuracy = end.field } in
    let grouped : text ≡ sign_text negative ++ (time.days ++ (clock_text time.clock ++ inaccuracy_text end.field)) =
    sign_spelled negative text (sign_at text).1 (sign_takes text)
    ∙ ap (λ (x : List ℕ). sign_text negative ++ x) (time.spelled ∙ ap (λ (x : List ℕ). time.days ++ (clock_text time.clock ++ x)) end.spelled) in
    let regrouped : relative_text f ≡ sign_text negative ++ (time.days ++ (clock_text time.clock ++ inaccuracy_text end.field)) =
    append_assoc (sign_text negative ++ time.days) (clock_text time.clock) (inaccuracy_text end.field)
    ∙ append_assoc (sign_text negative) time.days (clock_text time.clock ++ inaccuracy_text end.field) in
    let said : length_made a.0.0 b.0 ≡ relative_said f = length_same a.0.0 _ b.0 _ time.said end.said in (
      f,
      record {
        days = time.days_right;
        clock = time.clock_right;
        time = time.fits;
        inaccuracy = end.right;
      },
      grouped ∙ sym regrouped,
      sym (ok_is _ _ b.2) ∙ said,
    )
