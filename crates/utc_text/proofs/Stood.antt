-- The fields of a text that is spelled by the grammar stand in it.
use Rattle.std.proofs.Common.{◌≡◌, ℕ, Bool, true, false, cond, nat_eq, List, [], ◌∷◌, ◌++◌, get_or, Option, Some, None, refl, sym, subst, ◌∙◌, arith, append_assoc}
use Rattle.std.proofs.lemmas.Bool.{ne_eqb}
use Rattle.std.proofs.lemmas.List.{append-nil}
use Rattle.std.specs.Char.{is_ascii_digit}
use Rattle.utc_text.specs.declared.fault.TextField.TheVariants.{Year, Month, Day, Hour, Minute, Second, Fraction, TdfHour, TdfMinute, Inaccuracy, Tail}
use Rattle.utc_text.specs.Grammar.{digits, fraction_text, ClockField, TdfField, InaccuracyField, Unstated, Dashes, Infinite, Seconds, inaccuracy_text, IsInaccuracyField, AbsoluteFields, IsDaysField, RelativeFields, BeginsNot, EndsFraction, EndsInaccuracy, PartStands, TdfHourStands, TdfMinuteStands, InaccuracyStands, FractionStands, Stand, AbsoluteStands, RelativeStands, absolute_order, SignStands, relative_order}
use Rattle.utc_text.specs.Written.{date_text, IsDateField, clock_text, IsClockField, tdf_text, IsTdfField, absolute_text, IsAbsolute, sign_text, relative_text, IsRelative, EndsTdf, EndsSign}
use Rattle.utc_text.proofs.DigitLemmas.{digit_octet}
use Rattle.utc_text.proofs.Again.{Stops, inaccuracy_stops, tdf_stops}
use Rattle.utc_text.proofs.Reached.{joined}

-- ---- what stands behind a field

no_digit : (rest : List ℕ) → is_ascii_digit (get_or rest 0 0) ≡ false → BeginsNot is_ascii_digit rest
no_digit [] h = tt
no_digit (octet ∷ rest) h = h

no_point : (rest : List ℕ) → (get_or rest 0 0 ≡ 46 → ⊥) → BeginsNot (λ octet. nat_eq octet 46) rest
no_point [] h = tt
no_point (octet ∷ rest) h = ne_eqb octet 46 h

fraction_ends : (fraction : Option (List ℕ)) (rest : List ℕ) → Stops rest → EndsFraction fraction rest
fraction_ends None rest stop = no_point rest stop.point
fraction_ends (Some ds) rest stop = no_digit rest stop.digit

tdf_ends : (i : InaccuracyField) → EndsTdf None (inaccuracy_text i)
tdf_ends Unstated = tt
tdf_ends Dashes = refl
tdf_ends Infinite = refl
tdf_ends (Seconds ds fraction) = refl

seconds_end : (fraction : Option (List ℕ)) → BeginsNot is_ascii_digit (fraction_text fraction ++ []) × EndsFraction fraction []
seconds_end None = (tt, tt)
seconds_end (Some ds) = (refl, tt)

inaccuracy_ends : (i : InaccuracyField) → EndsInaccuracy i []
inaccuracy_ends Unstated = tt
inaccuracy_ends Dashes = tt
inaccuracy_ends Infinite = tt
inaccuracy_ends (Seconds ds fraction) = seconds_end fraction

sign_ends : (negative : Bool) (ds rest : List ℕ) → IsDaysField ds → EndsSign negative (ds ++ rest)
sign_ends true ds rest h = tt
sign_ends false [] rest h = absurd (omega (arith, h.1))
sign_ends false (d ∷ ds) rest h =
    let octet = digit_octet d h.0.0 in
    ne_eqb d 45 (λ e. omega arith)

sign_stands : (negative : Bool) (rest : List ℕ) → EndsSign negative rest → SignStands negative (sign_text negative ++ rest) rest
sign_stands true rest ends = refl
sign_stands false rest ends = (ends, refl)

-- ---- the time of day, the factor and the end

abbrev Clocked : ClockField → List ℕ → List ℕ → Type 0
Clocked c here rest =
    (a : List ℕ) × PartStands 45 0 23 c.hour here a × ((b : List ℕ) × PartStands 58 0 59 c.minute a b × ((s : List ℕ) × PartStands 58 0 59 c.second b s × ((e : List ℕ) × FractionStands c.fraction s e × (e ≡ rest))))

clocked : (c : ClockField) (rest : List ℕ) → IsClockField c → Stops rest → Clocked c (clock_text c ++ rest) rest
clocked c rest h stop =
    let regrouped : clock_text c ++ rest ≡ 45 ∷ digits 2 c.hour ++ (58 ∷ digits 2 c.minute ++ (58 ∷ digits 2 c.second ++ (fraction_text c.fraction ++ rest))) = simp append_assoc in
    let second = fraction_text c.fraction ++ rest in
    let minute = 58 ∷ digits 2 c.second ++ second in
    let hour = 58 ∷ digits 2 c.minute ++ minute in (
      hour,
      ((omega arith, h.hour), regrouped),
      (
        minute,
        ((omega arith, h.minute), refl),
        (second, ((omega arith, h.second), refl), (rest, (h.fraction, fraction_ends c.fraction rest stop, refl), refl)),
      ),
    )

abbrev Factored : Option TdfField → List ℕ → List ℕ → Type 0
Factored t here rest =
    (middle : List ℕ) × TdfHourStands t here middle × ((behind : List ℕ) × TdfMinuteStands t middle behind × (behind ≡ rest))

factored : (t : Option TdfField) (i : InaccuracyField) → IsTdfField t
    → Factored t (tdf_text t ++ inaccuracy_text i) (inaccuracy_text i)
factored None i h = (inaccuracy_text i, (tdf_ends i, refl), (inaccuracy_text i, refl, refl))
factored (Some t) i h =
    let rest = inaccuracy_text i in
    let regrouped : tdf_text (Some t) ++ rest ≡ cond t.west 45 43 ∷ digits 2 t.hours ++ (58 ∷ digits 2 t.minutes ++ rest) =
    simp append_assoc in
    (58 ∷ digits 2 t.minutes ++ rest, ((omega arith, h.0), regrouped), (rest, ((omega arith, h.1), refl), refl))

ended : (i : InaccuracyField) → IsInaccuracyField i → InaccuracyStands i (inaccuracy_text i) []
ended i h = (h, inaccuracy_ends i, sym (append-nil (inaccuracy_text i)))

-- ---- whole texts

dated : (f : AbsoluteFields) (rest : List ℕ) → IsDateField f.date
    → Stand AbsoluteStands (Year ∷ Month ∷ Day ∷ []) f (date_text f.date ++ rest) rest
dated f rest h =
    let d = f.date in
    let regrouped : date_text d ++ rest ≡ digits 4 d.year ++ (45 ∷ digits 2 d.month ++ (45 ∷ digits 2 d.day ++ rest)) =
    simp append_assoc in
    let month = 45 ∷ digits 2 d.day ++ rest in
    (45 ∷ digits 2 d.month ++ month, (h.year, regrouped), (month, (h.month, refl), (rest, (h.day, refl), refl)))

pub absolute_stands : (text : List ℕ) (f : AbsoluteFields) → IsAbsolute f → text ≡ absolute_text f
    → Stand AbsoluteStands absolute_order f text []
absolute_stands text f h is =
    let end = inaccuracy_text f.inaccuracy in
    let factor = tdf_text f.tdf ++ end in
    let clock = clock_text f.clock ++ factor in
    let regrouped : date_text f.date ++ clock ≡ text =
    sym (is ∙ append_assoc (date_text f.date ++ clock_text f.clock) (tdf_text f.tdf) end ∙ append_assoc (date_text f.date) (clock_text f.clock) factor) in
    let its_end : Stand AbsoluteStands (Inaccuracy ∷ Tail ∷ []) f end [] =
    ([], ended f.inaccuracy h.inaccuracy, ([], (refl, refl), refl)) in
    let its_factor =
    joined AbsoluteStands (TdfHour ∷ TdfMinute ∷ []) (Inaccuracy ∷ Tail ∷ []) f factor end [] (factored f.tdf f.inaccuracy h.tdf) its_end in
    let its_clock =
    joined AbsoluteStands (Hour ∷ Minute ∷ Second ∷ Fraction ∷ []) (TdfHour ∷ TdfMinute ∷ Inaccuracy ∷ Tail ∷ []) f clock factor [] (clocked f.clock factor h.clock (tdf_stops f.tdf f.inaccuracy)) its_factor in
    let whole =
    joined AbsoluteStands (Year ∷ Month ∷ Day ∷ []) (Hour ∷ Minute ∷ Second ∷ Fraction ∷ TdfHour ∷ TdfMinute ∷ Inaccuracy ∷ Tail ∷ []) f (date_text f.date ++ clock) clock [] (dated f clock h.date) its_clock in
    subst (λ (x : List ℕ). Stand AbsoluteStands absolute_order f x []) regrouped whole

pub relative_stands : (text : List ℕ) (f : RelativeFields) → IsRelative f → text ≡ relative_text f
    → Stand RelativeStands relative_order f text []
relative_stands text f h is =
    let end = inaccuracy_text f.inaccuracy in
    let clock = clock_text f.clock ++ end in
    let days = f.days ++ clock in
    let regrouped : sign_text f.negative ++ days ≡ text =
    sym (is ∙ append_assoc (sign_text f.negative ++ f.days) (clock_text f.clock) end ∙ append_assoc (sign_text f.negative) f.days clock) in
    let its_end : Stand RelativeStands (Inaccuracy ∷ Tail ∷ []) f end [] =
    ([], ended f.inaccuracy h.inaccuracy, ([], (refl, refl), refl)) in
    let its_clock =
    joined RelativeStands (Hour ∷ Minute ∷ Second ∷ Fraction ∷ []) (Inaccuracy ∷ Tail ∷ []) f clock end [] (clocked f.clock end h.clock (inaccuracy_stops f.inaccuracy)) its_end in
    let sign : EndsSign f.negative days = sign_ends f.negative f.days clock h.days in
    let whole : Stand RelativeStands relative_order f (sign_text f.negative ++ days) [] =
    (days, sign_stands f.negative days sign, (clock, (h.days, refl, refl), its_clock)) in
    subst (λ (x : List ℕ). Stand RelativeStands relative_order f x []) regrouped whole
