-- A text spells one time or has one fault, and a time that is printed has one text.
use Rattle.std.proofs.Common.{◌≡◌, ◌↔◌, ◌⊎◌, inl, inr, ℕ, ◌+◌, ◌*◌, ◌/◌, ◌%◌, ◌<◌, ◌≤◌, Bool, true, false, List, [], ◌∷◌, ◌++◌, length, Option, Result, Ok, Err, refl, sym, ap, ◌∙◌, arith, append_assoc, ℤ, pos, int_lt}
use Rattle.std.proofs.lemmas.Bool.{eqb-false}
use Rattle.std.specs.Str.Parse.{AllDigits}
use Rattle.utc_value.specs.Stamp.{Stamp, IsInRange}
use Rattle.utc_text.specs.declared.fault.TextFault.{TextFault}
use Rattle.utc_text.specs.declared.fault.PrintFault.{PrintFault}
use Rattle.utc_text.specs.declared.calendar.Civil.{Civil}
use Rattle.utc_text.specs.Civil.{IsCivil, civil_count, local_count, clock_units}
use Rattle.utc_text.specs.FirstWrong.{IsAbsoluteFault, IsRelativeFault}
use Rattle.utc_text.specs.Grammar.{digits, YearMonthDay, fraction_text, inaccuracy_text, ClockField, AbsoluteFields}
use Rattle.utc_text.specs.Texts.{IsPrintable, SpellsAbsolute, SpellsRelative}
use Rattle.utc_text.specs.Printing.{IsShown, IsLengthShown, absolute_shown, clock_shown, relative_shown}
use Rattle.utc_text.specs.Reading.{absolute_of, relative_of}
use Rattle.utc_text.specs.Written.{relative_divided, absolute_text, clock_text, date_text, tdf_text, relative_text, sign_text}
use Rattle.utc_text.proofs.CivilLemmas.{same_civil}
use Rattle.utc_text.proofs.DigitLemmas.{digit_octet}
use Rattle.utc_text.proofs.ReadLaws.{absolute_only, absolute_found, relative_only, relative_found}
use Rattle.utc_text.proofs.AbsoluteFault.{absolute_fault}
use Rattle.utc_text.proofs.RelativeFault.{relative_fault}
use Rattle.utc_text.proofs.OnlyFault.{absolute_only_fault, relative_only_fault}
use Rattle.std.specs.Prelude.{IsOk, IfOk}
use Rattle.utc_text.proofs.Stood.{absolute_stands}
use Rattle.utc_text.proofs.PrintLemmas.{absolute_right}
use Rattle.utc_text.proofs.PrintAnswers.{length_shown}
use Rattle.utc_text.proofs.Spelled.{absolute_spelled, relative_parts}

-- ---- one value or one fault

abbrev read : Stamp → Result Stamp TextFault
read u = Ok u

abbrev refused : TextFault → Result Stamp TextFault
refused fault = Err fault

read_is : (u v : Stamp) → read u ≡ read v → u ≡ v
read_is u v e = cc

refused_is : (x y : TextFault) → refused x ≡ refused y → x ≡ y
refused_is x y e = cc

never_both : (u : Stamp) (x : TextFault) → read u ≡ refused x → ⊥
never_both u x e = absurd cc

pub absolute_one_value : (text : List ℕ) (u v : Stamp) → SpellsAbsolute text u → SpellsAbsolute text v → u ≡ v
absolute_one_value text u v a b = read_is u v (sym (absolute_only text u a) ∙ absolute_only text v b)

pub absolute_not_both : (text : List ℕ) (u : Stamp) (fault : TextFault) → SpellsAbsolute text u → IsAbsoluteFault text fault → ⊥
absolute_not_both text u fault a b =
    never_both u fault (sym (absolute_only text u a) ∙ absolute_only_fault text (absolute_of text) refl fault b)

pub absolute_one_fault : (text : List ℕ) (x y : TextFault) → IsAbsoluteFault text x → IsAbsoluteFault text y → x ≡ y
absolute_one_fault text x y a b =
    refused_is x y (sym (absolute_only_fault text (absolute_of text) refl x a) ∙ absolute_only_fault text (absolute_of text) refl y b)

absolute_in : (text : List ℕ) (r : Result Stamp TextFault) → absolute_of text ≡ r
    → ((u : Stamp) × SpellsAbsolute text u) ⊎ ((fault : TextFault) × IsAbsoluteFault text fault)
absolute_in text (Ok u) e = inl (u, absolute_found text u e)
absolute_in text (Err fault) e = inr (fault, absolute_fault text (Err fault) (sym e))

pub absolute_either : (text : List ℕ) → ((u : Stamp) × SpellsAbsolute text u) ⊎ ((fault : TextFault) × IsAbsoluteFault text fault)
absolute_either text = absolute_in text (absolute_of text) refl

pub relative_one_value : (text : List ℕ) (u v : Stamp) → SpellsRelative text u → SpellsRelative text v → u ≡ v
relative_one_value text u v a b = read_is u v (sym (relative_only text u a) ∙ relative_only text v b)

pub relative_not_both : (text : List ℕ) (u : Stamp) (fault : TextFault) → SpellsRelative text u → IsRelativeFault text fault → ⊥
relative_not_both text u fault a b =
    never_both u fault (sym (relative_only text u a) ∙ relative_only_fault text (relative_of text) refl fault b)

pub relative_one_fault : (text : List ℕ) (x y : TextFault) → IsRelativeFault text x → IsRelativeFault text y → x ≡ y
relative_one_fault text x y a b =
    refused_is x y (sym (relative_only_fault text (relative_of text) refl x a) ∙ relative_only_fault text (relative_of text) refl y b)

relative_in : (text : List ℕ) (r : Result Stamp TextFault) → relative_of text ≡ r
    → ((u : Stamp) × SpellsRelative text u) ⊎ ((fault : TextFault) × IsRelativeFault text fault)
relative_in text (Ok u) e = inl (u, relative_found text u e)
relative_in text (Err fault) e = inr (fault, relative_fault text (Err fault) (sym e))

pub relative_either : (text : List ℕ) → ((u : Stamp) × SpellsRelative text u) ⊎ ((fault : TextFault) × IsRelativeFault text fault)
relative_either text = relative_in text (relative_of text) refl

-- ---- no text is of both kinds: behind its second separator an absolute one has a dash, and a relative one a colon

apart_at : (ds : List ℕ) (a b c d e f i j : ℕ) (r s : List ℕ) → 48 ≤ b → 48 ≤ c → 48 ≤ d → AllDigits 10 ds → 1 ≤ length ds
    → a ∷ b ∷ c ∷ d ∷ 45 ∷ e ∷ f ∷ 45 ∷ r ≡ ds ++ (45 ∷ i ∷ j ∷ 58 ∷ s) → ⊥
apart_at [] a b c d e f i j r s hb hc hd all some same = absurd (omega (arith, some))
apart_at (x ∷ []) a b c d e f i j r s hb hc hd all some same = let at : b ≡ 45 = cc in absurd (omega arith)
apart_at (x ∷ y ∷ []) a b c d e f i j r s hb hc hd all some same = let at : c ≡ 45 = cc in absurd (omega arith)
apart_at (x ∷ y ∷ z ∷ []) a b c d e f i j r s hb hc hd all some same = let at : d ≡ 45 = cc in absurd (omega arith)
apart_at (x ∷ y ∷ z ∷ w ∷ []) a b c d e f i j r s hb hc hd all some same = let at : 45 ≡ 58 = cc in absurd (eqb-false 45 58 refl at)
apart_at (x ∷ y ∷ z ∷ w ∷ v ∷ ds) a b c d e f i j r s hb hc hd all some same =
    let at : v ≡ 45 = cc in
    let octet = digit_octet v all.1.1.1.1.0 in
    absurd (omega (arith, octet.0))

apart_texts : (y m h : ℕ) (ds r s : List ℕ) → AllDigits 10 ds → 1 ≤ length ds
    → digits 4 y ++ (45 ∷ digits 2 m ++ (45 ∷ r)) ≡ ds ++ (45 ∷ digits 2 h ++ (58 ∷ s)) → ⊥
unfolding digits
apart_texts y m h ds r s all some same =
    apart_at ds (48 + y / 10 / 10 / 10 % 10) (48 + y / 10 / 10 % 10) (48 + y / 10 % 10) (48 + y % 10) (48 + m / 10 % 10) (48 + m % 10) (48 + h / 10 % 10) (48 + h % 10) r s (omega arith) (omega arith) (omega arith) all some same

no_sign : (y : ℕ) (r s : List ℕ) → digits 4 y ++ r ≡ 45 ∷ s → ⊥
unfolding digits
no_sign y r s same = let at : 48 + y / 10 / 10 / 10 % 10 ≡ 45 = cc in absurd (omega arith)

clock_front : (c : ClockField) (rest : List ℕ)
    → clock_text c ++ rest ≡ 45 ∷ digits 2 c.hour ++ (58 ∷ (digits 2 c.minute ++ (58 ∷ digits 2 c.second ++ (fraction_text c.fraction ++ rest))))
clock_front c rest = simp append_assoc

date_front : (d : YearMonthDay) (rest : List ℕ)
    → date_text d ++ rest ≡ digits 4 d.year ++ (45 ∷ digits 2 d.month ++ (45 ∷ (digits 2 d.day ++ rest)))
date_front d rest = simp append_assoc

absolute_front : (f : AbsoluteFields)
    → absolute_text f ≡ digits 4 f.date.year ++ (45 ∷ digits 2 f.date.month ++ (45 ∷ (digits 2 f.date.day ++ (clock_text f.clock ++ (tdf_text f.tdf ++ inaccuracy_text f.inaccuracy)))))
absolute_front f =
    let end = inaccuracy_text f.inaccuracy in
    let factor = tdf_text f.tdf ++ end in
    append_assoc (date_text f.date ++ clock_text f.clock) (tdf_text f.tdf) end
    ∙ append_assoc (date_text f.date) (clock_text f.clock) factor
    ∙ date_front f.date (clock_text f.clock ++ factor)

signed_apart : (negative : Bool) (y m h : ℕ) (ds r s : List ℕ) → AllDigits 10 ds → 1 ≤ length ds
    → digits 4 y ++ (45 ∷ digits 2 m ++ (45 ∷ r)) ≡ sign_text negative ++ (ds ++ (45 ∷ digits 2 h ++ (58 ∷ s))) → ⊥
signed_apart true y m h ds r s all some same = no_sign y _ _ same
signed_apart false y m h ds r s all some same = apart_texts y m h ds r s all some same

pub no_text_is_both : (text : List ℕ) (u v : Stamp) → SpellsAbsolute text u → SpellsRelative text v → ⊥
no_text_is_both text u v a b =
    let p = absolute_spelled text a.fields a.spelled in
    let q = relative_parts text b.fields b.spelled in
    let f = a.fields in
    let g = b.fields in
    let behind =
    digits 2 g.clock.minute ++ (58 ∷ digits 2 g.clock.second ++ (fraction_text g.clock.fraction ++ inaccuracy_text g.inaccuracy)) in
    let regrouped : relative_text g ≡ sign_text g.negative ++ (g.days ++ (clock_text g.clock ++ inaccuracy_text g.inaccuracy)) =
    append_assoc (sign_text g.negative ++ g.days) (clock_text g.clock) (inaccuracy_text g.inaccuracy)
    ∙ append_assoc (sign_text g.negative) g.days (clock_text g.clock ++ inaccuracy_text g.inaccuracy) in
    let clock = ap (λ (x : List ℕ). sign_text g.negative ++ (g.days ++ x)) (clock_front g.clock (inaccuracy_text g.inaccuracy)) in
    signed_apart g.negative f.date.year f.date.month g.clock.hour g.days (digits 2 f.date.day ++ (clock_text f.clock ++ (tdf_text f.tdf ++ inaccuracy_text f.inaccuracy))) behind q.0.0 q.0.1 (sym (absolute_front f) ∙ sym p.1 ∙ q.3 ∙ regrouped ∙ clock)

-- ---- one text of a time

pub absolute_one_text : (time tdf : ℤ) (inaccuracy : Option ℕ) (t s : List ℕ) → IsShown time tdf inaccuracy t
    → IsShown time tdf inaccuracy s → t ≡ s
absolute_one_text time tdf inaccuracy t s a b =
    let p = absolute_spelled t (absolute_shown a.civil tdf inaccuracy) a.spelled in
    let q = absolute_spelled s (absolute_shown b.civil tdf inaccuracy) b.spelled in
    let civil = same_civil a.civil b.civil a.is_civil b.is_civil (a.count ∙ sym b.count) in
    p.1 ∙ ap (λ (c : Civil). absolute_text (absolute_shown c tdf inaccuracy)) civil ∙ sym q.1

abbrev length_text : Bool → Option ℕ → ℕ → ℕ → ℕ → ℕ → ℕ → List ℕ
length_text negative inaccuracy days hour minute second units =
    relative_text (relative_shown negative days (clock_shown hour minute second units) inaccuracy)

length_same : (d h m s u d' h' m' s' u' : ℕ) → h ≤ 23 → m ≤ 59 → s ≤ 59 → u < 10_000_000 → h' ≤ 23 → m' ≤ 59 → s' ≤ 59
    → u' < 10_000_000 → d * 864_000_000_000 + clock_units h m s u ≡ d' * 864_000_000_000 + clock_units h' m' s' u'
    → (d ≡ d') × (h ≡ h') × (m ≡ m') × (s ≡ s') × (u ≡ u')
length_same d h m s u d' h' m' s' u' hh mh sh uh hk mk sk uk e = (omega arith, omega arith, omega arith, omega arith, omega arith)

pub length_one_text : (time : ℤ) (inaccuracy : Option ℕ) (t s : List ℕ) → IsLengthShown time inaccuracy t
    → IsLengthShown time inaccuracy s → t ≡ s
length_one_text time inaccuracy t s a b =
    let p =
    relative_parts t (relative_shown (int_lt time (pos 0)) a.days (clock_shown a.hour a.minute a.second a.units) inaccuracy) a.spelled in
    let q =
    relative_parts s (relative_shown (int_lt time (pos 0)) b.days (clock_shown b.hour b.minute b.second b.units) inaccuracy) b.spelled in
    let same =
    length_same a.days a.hour a.minute a.second a.units b.days b.hour b.minute b.second b.units p.1.hour p.1.minute p.1.second a.less q.1.hour q.1.minute q.1.second b.less (a.length ∙ sym b.length) in
    let texts : length_text (int_lt time (pos 0)) inaccuracy a.days a.hour a.minute a.second a.units ≡ length_text (int_lt time (pos 0)) inaccuracy b.days b.hour b.minute b.second b.units = rw (same.0, same.1, same.2, same.3, same.4) refl in
    p.3 ∙ texts ∙ sym q.3

-- ---- a text of each time that is printed

pub moment_text : (r : Result Civil PrintFault) (u : Stamp) (tdf : ℤ) → IsInRange u → IsOk r ↔ IsPrintable u tdf
    → IfOk r (λ c. IsCivil c × (civil_count c ≡ local_count u.time tdf)) → IsPrintable u tdf → (text : List ℕ) × IsShown u.time tdf u.inaccuracy text
moment_text (Ok c) u tdf h succeeds value p =
    let fields = absolute_shown c tdf u.inaccuracy in
    let right = absolute_right c tdf u.inaccuracy value.0 p.tdf_in h.inaccuracy_fits in
    (absolute_text fields, record { civil = c; is_civil = value.0; count = value.1; spelled = absolute_stands (absolute_text fields) fields right refl })
moment_text (Err fault) u tdf h succeeds value p = let ok = succeeds.1 p in absurd cc

pub length_has_text : (u : Stamp) → IsInRange u → (text : List ℕ) × IsLengthShown u.time u.inaccuracy text
length_has_text u h =
    let r : Result (List ℕ) PrintFault = Ok (relative_text (relative_divided u.time u.inaccuracy)) in
    (relative_text (relative_divided u.time u.inaccuracy), length_shown r u h refl)
