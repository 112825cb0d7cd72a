-- What is printed is right by the grammar, and says what was printed.
use Rattle.std.proofs.Common.{◌≡◌, ℕ, zero, suc, ◌+◌, ◌-◌, ◌*◌, ◌/◌, ◌%◌, ◌^◌, ◌<◌, ◌≤◌, List, [], ◌∷◌, ◌++◌, length, Option, Some, None, refl, sym, ap, subst, ◌∙◌, arith, append_assoc, ℤ, pos}
use Rattle.std.proofs.Common.{negsuc, neg_ℤ, ◌≤ℤ◌, unsigned_abs, inl, inr, int_lt, FitsSigned, w64}
use Rattle.std.proofs.lemmas.Bool.Decides.{nat_tests}
use Rattle.std.proofs.lemmas.Bool.{le-ltb, lt-ltb, cases_lt}
use Rattle.std.specs.Int.{IsInRange}
use Rattle.jiff_core.specs.Calendar.{days_in_month}
use Rattle.std.proofs.lemmas.Fmt.{decimal_digit, decimal_step, decimal_is_IsNumeral, length-decimal-le}
use Rattle.std.proofs.lemmas.Grind.{pow_more}
use Rattle.std.proofs.lemmas.Int.Digits.{digits_push, digits_value_push}
use Rattle.std.proofs.lemmas.List.{length_push}
use Rattle.std.specs.Char.{digit_value}
use Rattle.std.specs.Fmt.{decimal}
use Rattle.std.specs.Str.Parse.{AllDigits, digits_value}
use Rattle.jiff_core.proofs.SignedLemmas.{signed_arith}
use Rattle.utc_value.specs.Stamp.{IsTdf, IsInaccuracy}
use Rattle.utc_text.specs.declared.calendar.Civil.{Civil}
use Rattle.utc_text.specs.Civil.{IsCivil}
use Rattle.utc_text.specs.Grammar.{units_of, signed, digits, IsFraction, tdf_said, IsInaccuracyField, inaccuracy_said, seconds_units, relative_units}
use Rattle.utc_text.specs.Printing.{clock_shown, tdf_shown, inaccuracy_shown, absolute_shown, days_shown}
use Rattle.utc_text.specs.Written.{relative_divided, IsClockField, IsTdfField, IsAbsolute, absolute_said, IsRelative, relative_said}

pub digits_step : (k n : ℕ) → (k ≡ 0 → ⊥) → digits k n ≡ digits (k - 1) (n / 10) ++ (48 + n % 10) ∷ []
unfolding digits
digits_step zero n h = absurd (h refl)
digits_step (suc k) n h = let back : suc k - 1 ≡ k = omega arith in rw back refl

pub pushed_digits : (old : List ℕ) (k n : ℕ) → (k ≡ 0 → ⊥)
    → (old ++ digits (k - 1) (n / 10)) ++ (48 + n % 10) ∷ [] ≡ old ++ digits k n
pushed_digits old k n h = append_assoc old (digits (k - 1) (n / 10)) ((48 + n % 10) ∷ []) ∙ ap (λ (x : List ℕ). old ++ x) (sym (digits_step k n h))

pub pushed_decimal : (old : List ℕ) (n : ℕ) → 10 ≤ n → n < 2 ^ 64
    → (old ++ decimal (n / 10)) ++ (48 + n % 10) ∷ [] ≡ old ++ decimal n
pushed_decimal old n h small = append_assoc old (decimal (n / 10)) ((48 + n % 10) ∷ []) ∙ ap (λ (x : List ℕ). old ++ x) (sym (decimal_step n h small))

pub pushed_digit : (old : List ℕ) (n : ℕ) → n < 10 → old ++ (48 + n % 10) ∷ [] ≡ old ++ decimal n
pushed_digit old n h = let small : n % 10 ≡ n = omega arith in ap (λ (x : ℕ). old ++ (48 + x) ∷ []) small ∙ ap (λ (x : List ℕ). old ++ x) (sym (decimal_digit n h))

digit_of : (d : ℕ) → d < 10 → digit_value (48 + d) ≡ d
digit_of d h = grind (arith, nat_tests)

pub AllDigits-digits : (k n : ℕ) → AllDigits 10 (digits k n)
unfolding digits
AllDigits-digits zero n = tt
AllDigits-digits (suc k) n = digits_push 10 (digits k (n / 10)) (48 + n % 10) (AllDigits-digits k (n / 10)) (omega (arith, digit_of (n % 10) (omega arith)))

pub length-digits : (k n : ℕ) → length (digits k n) ≡ k
unfolding digits
length-digits zero n = refl
length-digits (suc k) n = length_push (digits k (n / 10)) (48 + n % 10) ∙ omega (arith, length-digits k (n / 10))

pub value-digits : (k n : ℕ) → n < 10 ^ k → digits_value 10 (digits k n) ≡ n
unfolding digits
value-digits zero n h = omega arith
value-digits (suc k) n h =
    let more : suc k ≡ k + 1 = omega arith in
    let power : 10 ^ suc k ≡ 10 ^ k * 10 = ap (λ (x : ℕ). 10 ^ x) more ∙ pow_more 10 k in
    let front : n / 10 < 10 ^ k = omega (arith, power) in
    omega (arith, digits_value_push 10 (digits k (n / 10)) (48 + n % 10), value-digits k (n / 10) front, digit_of (n % 10) (omega arith))

pub units_of-digits : (n : ℕ) → n < 10_000_000 → units_of (digits 7 n) ≡ n
units_of-digits n h =
    let one : n * 10 ^ (7 - 7) ≡ n = omega arith in
    rw (length-digits 7 n, value-digits 7 n h) one

pub fraction_right : (n : ℕ) → IsFraction (Some (digits 7 n))
fraction_right n = (AllDigits-digits 7 n, omega (arith, length-digits 7 n))

-- a number as it is written with no leading zero
pub record IsNumber (k n : ℕ) (ds : List ℕ) : Type 0 where
  pub all : AllDigits 10 ds
  pub some : 1 ≤ length ds
  pub few : length ds ≤ k
  pub value : digits_value 10 ds ≡ n

pub decimal_right : (k n : ℕ) → 0 < k → n < 10 ^ k → n < 2 ^ 64 → IsNumber k n (decimal n)
decimal_right k n h lt small =
    let numeral = decimal_is_IsNumeral n small in
    record { all = numeral.0.1; some = numeral.0.0; few = length-decimal-le k n h lt small; value = numeral.1 }

inaccuracy_right : (i : Option ℕ) → IsInaccuracy i
    → IsInaccuracyField (inaccuracy_shown i) × (inaccuracy_said (inaccuracy_shown i) ≡ i)
inaccuracy_right None h = (tt, refl)
inaccuracy_right (Some n) h =
    let s = decimal_right 9 (n / 10_000_000) (omega arith) (omega arith) (omega arith) in
    let whole : seconds_units (decimal (n / 10_000_000)) (Some (digits 7 (n % 10_000_000))) ≡ n = rw (s.value, units_of-digits (n % 10_000_000) (omega arith)) (omega arith) in
    ((s.all, s.some, s.few, fraction_right (n % 10_000_000), rw whole h), ap (λ (x : ℕ). Some x) whole)

clock_right : (hour minute second units : ℕ) → hour < 24 → minute < 60 → second < 60
    → IsClockField (clock_shown hour minute second units)
clock_right hour minute second units h m s = record { hour = omega arith; minute = omega arith; second = omega arith; fraction = fraction_right units }

tdf_right : (tdf : ℤ) → IsTdf tdf → IsTdfField (Some (tdf_shown tdf)) × (tdf_said (Some (tdf_shown tdf)) ≡ tdf)
tdf_right (pos n) h =
    let low : n ≤ 1439 = omega (arith, signed_arith, h.1) in
    let whole : n / 60 * 60 + n % 60 ≡ n = omega arith in
    ((omega arith, omega arith), rw (le-ltb n 0 (omega arith), whole) refl)
tdf_right (negsuc n) h =
    let low : suc n ≤ 1439 = omega (arith, signed_arith, h.0) in
    let whole : suc n / 60 * 60 + suc n % 60 ≡ suc n = omega arith in
    ((omega arith, omega arith), ap (λ (x : ℕ). neg_ℤ (pos x)) whole)

abs_small : (z : ℤ) → FitsSigned w64 z → unsigned_abs z ≤ 2 ^ 63
abs_small (pos n) h = omega (arith, signed_arith, h)
abs_small (negsuc n) h = omega (arith, signed_arith, h)

pos_abs : (z : ℤ) → pos 0 ≤ℤ z → pos (unsigned_abs z) ≡ z
pos_abs (pos n) h = refl
pos_abs (negsuc n) h = absurd (omega (arith, signed_arith, h))

-- the fields that are printed are right
pub absolute_right : (c : Civil) (tdf : ℤ) (i : Option ℕ) → IsCivil c → IsTdf tdf → IsInaccuracy i
    → IsAbsolute (absolute_shown c tdf i)
absolute_right c tdf i h t n =
    let year : pos (unsigned_abs c.year) ≡ c.year = pos_abs c.year (omega (arith, signed_arith, h.year)) in
    let day : IsInRange 1 (days_in_month (pos (unsigned_abs c.year)) c.month) c.day = subst (λ (y : ℤ). IsInRange 1 (days_in_month y c.month) c.day) (sym year) h.day in
    record {
      date = record { year = (omega (arith, signed_arith, h.year, year), omega (arith, signed_arith, h.year, year)); month = h.month; day = day };
      clock = clock_right c.hour c.minute c.second c.units h.hour h.minute h.second;
      tdf = (tdf_right tdf t).0;
      inaccuracy = (inaccuracy_right i n).0;
    }

-- and say what was printed
pub absolute_said_shown : (c : Civil) (tdf : ℤ) (i : Option ℕ) → IsCivil c → IsTdf tdf → IsInaccuracy i
    → absolute_said (absolute_shown c tdf i) ≡ record { civil = c; tdf = tdf; inaccuracy = i }
absolute_said_shown c tdf i h t n =
    let year : pos (unsigned_abs c.year) ≡ c.year = pos_abs c.year (omega (arith, signed_arith, h.year)) in
    rw (year, units_of-digits c.units h.units, (tdf_right tdf t).1, (inaccuracy_right i n).1) refl

days_right : (n : ℕ) → n ≤ 10_675_199 → IsNumber 8 n (days_shown n)
days_right n h =
    let s = decimal_right 8 n (omega arith) (omega arith) (omega arith) in
    elim (cases_lt n 10) [
      | inl lt ↦ rw (lt-ltb n 10 lt) (record { all = (omega arith, s.all); some = omega arith; few = omega (arith, length-decimal-le 1 n (omega arith) (omega arith) (omega arith)); value = s.value })
      | inr le ↦ rw (le-ltb n 10 le) s
    ]

pub length_parts : (n : ℕ)
    → n / 864_000_000_000 * 864_000_000_000 + (((n / 36_000_000_000 % 24 * 60 + n / 600_000_000 % 60) * 60 + n / 10_000_000 % 60) * 10_000_000 + n % 10_000_000) ≡ n
length_parts n = omega arith

relative_whole : (time : ℤ) (i : Option ℕ) → unsigned_abs time ≤ 2 ^ 63
    → relative_units (relative_divided time i) ≡ unsigned_abs time
relative_whole time i h =
    let days = days_right (unsigned_abs time / 864_000_000_000) (omega arith) in
    rw (days.value, units_of-digits (unsigned_abs time % 10_000_000) (omega arith)) (length_parts (unsigned_abs time))

signed_abs : (time : ℤ) → signed (int_lt time (pos 0)) (unsigned_abs time) ≡ time
signed_abs (pos n) = rw (le-ltb n 0 (omega arith)) refl
signed_abs (negsuc n) = refl

pub relative_right : (time : ℤ) (i : Option ℕ) → FitsSigned w64 time → IsInaccuracy i → IsRelative (relative_divided time i)
relative_right time i h n =
    let small : unsigned_abs time ≤ 2 ^ 63 = abs_small time h in
    let days = days_right (unsigned_abs time / 864_000_000_000) (omega arith) in
    let whole = relative_whole time i small in
    let same : signed (int_lt time (pos 0)) (relative_units (relative_divided time i)) ≡ time = rw whole (signed_abs time) in
    record {
      days = (days.all, days.some, days.few, rw days.value (omega arith));
      clock = clock_right _ _ _ _ (omega arith) (omega arith) (omega arith);
      time = rw same h;
      inaccuracy = (inaccuracy_right i n).0;
    }

pub relative_said_shown : (time : ℤ) (i : Option ℕ) → FitsSigned w64 time → IsInaccuracy i
    → relative_said (relative_divided time i) ≡ record { time = time; inaccuracy = i }
relative_said_shown time i h n =
    let whole = relative_whole time i (abs_small time h) in
    let same : signed (int_lt time (pos 0)) (relative_units (relative_divided time i)) ≡ time = rw whole (signed_abs time) in
    rw (same, (inaccuracy_right i n).1) refl
