-- Whole numbers in decimal, as texts.
use Rattle.std.proofs.Common.{◌≡◌, ◌≢◌, ℕ, zero, suc, ◌+◌, ◌<◌, ◌^◌, List, [], ◌∷◌, length, drop, get_or, Option, Some, None, Result, Ok, Err, MatchOption, MatchResult, ℤ, pos, negsuc, neg_ℤ, FitsSigned, refl, sym, ap, ◌∙◌, subst, arith, IsUtf8, Bool, true, add-one}
use Rattle.std.specs.Prelude.{decimal, slice_index, ◌↔◌, IsTrue, unsigned_abs}
use Rattle.std.specs.Int.{w128}
use Rattle.std.specs.Fmt.{signed_decimal}
use Rattle.std.specs.Result.{result_ok}
use Rattle.std.specs.Str.{all_ascii_digits}
use Rattle.std.specs.Str.Parse.{ParsesSigned, digits_value}
use Rattle.std.proofs.lemmas.Bool.{false≢true}
use Rattle.std.proofs.lemmas.Fmt.{decimal_digit, decimal_nonempty, first_decimal, digits_decimal, digits_value-decimal, decimal-digits_value}
use Rattle.std.proofs.lemmas.Str.{IsUtf8-from_ascii}
use Rattle.std.proofs.lemmas.Str.Parse.{IsNumeralModel, numerals_by_value, tells_all_ascii_digits, parse_signed_plain, parse_signed_minus}
use Rattle.std.proofs.lemmas.Result.{OkIff-at_ok}
use Rattle.line_reader.specs.declared.number.NumberFault.{NumberFault}
use Rattle.line_reader.specs.declared.number.NumberFault.TheVariants as fault
use Rattle.line_reader.specs.Numbers.{IsDecimal, IsWhole, IsWithin, IsNumberFault}

-- std's digits and their value
pub own : IsNumeralModel (λ ds. all_ascii_digits ds ≡ true) (digits_value 10)
own = numerals_by_value (λ ds. all_ascii_digits ds ≡ true) tells_all_ascii_digits

-- a number is that of its digits
pub decimal_value : (digits : List ℕ) (n : ℕ) → IsDecimal digits n → IsDecimal digits (digits_value 10 digits)
decimal_value digits n is = record { some = is.some; each = is.each; plain = is.plain; value = refl }

-- a digit stands first, and so neither a minus nor a plus
pub first_digit : (digits : List ℕ) → 0 < length digits → all_ascii_digits digits ≡ true → (slice_index digits 0 ≢ 45) × (slice_index digits 0 ≢ 43)
first_digit [] some each = absurd (omega arith)
first_digit (x ∷ digits) some each = (λ e. false≢true (ap (λ n. all_ascii_digits (n ∷ digits)) (sym e) ∙ each), λ e. false≢true (ap (λ n. all_ascii_digits (n ∷ digits)) (sym e) ∙ each))

-- digits that do not begin with a zero write a number above 0
pub above_zero : (digits : List ℕ) → IsDecimal digits (digits_value 10 digits) → slice_index digits 0 ≢ 48 → 0 < digits_value 10 digits
above_zero digits is first = positive (digits_value 10 digits) refl
  where
    positive : (v : ℕ) → digits_value 10 digits ≡ v → 0 < v
    positive zero e =
        let written : decimal (digits_value 10 digits) ≡ digits = decimal-digits_value own digits is.each is.some is.plain (omega (arith, e)) in
        absurd (first (ap (λ (ds : List ℕ). get_or ds 0 0) (sym written ∙ ap decimal e ∙ decimal_digit 0 (omega arith))))
    positive (suc n) e = omega arith

-- where no minus stands first
pub plain_whole : (field : List ℕ) (r : Bool) → slice_index field 0 ≢ 45 → (IsTrue r ↔ IsDecimal field (digits_value 10 field)) → (IsTrue r ↔ ((z : ℤ) × IsWhole field z))
plain_whole field r first is = (λ t. (pos (digits_value 10 field), is.0 t), λ w. back w.0 w.1)
  where
    back : (z : ℤ) → IsWhole field z → IsTrue r
    back (pos n) whole = is.1 (decimal_value field n whole)
    back (negsuc n) (digits, e, whole) = absurd (first (ap (λ (o : List ℕ). get_or o 0 0) e))

-- a field behind its first octet
pub behind_first : (field : List ℕ) (x : ℕ) → x ≢ 0 → slice_index field 0 ≡ x → field ≡ x ∷ drop 1 field
behind_first [] x some e = absurd (some (sym e))
behind_first (y ∷ field) x some e = ap (λ (n : ℕ). n ∷ field) e

-- digits behind a minus
pub minus_whole : (field digits : List ℕ) (r : Bool) → field ≡ 45 ∷ digits → slice_index digits 0 ≢ 48 → (IsTrue r ↔ IsDecimal digits (digits_value 10 digits)) → (IsTrue r ↔ ((z : ℤ) × IsWhole field z))
minus_whole field digits r all first is = (λ t. forth (digits_value 10 digits) refl (is.0 t), λ w. back w.0 w.1)
  where
    forth : (v : ℕ) → digits_value 10 digits ≡ v → IsDecimal digits (digits_value 10 digits) → (z : ℤ) × IsWhole field z
    forth zero e whole = absurd (let lt = above_zero digits whole first in omega (arith, lt, e))
    forth (suc n) e whole = (negsuc n, (digits, all, record { some = whole.some; each = whole.each; plain = whole.plain; value = omega (arith, e) }))

    back : (z : ℤ) → IsWhole field z → IsTrue r
    back (pos n) whole = absurd ((first_digit field whole.some whole.each).0 (ap (λ (o : List ℕ). get_or o 0 0) all))
    back (negsuc n) (others, e, whole) = is.1 (decimal_value digits (n + 1) (let same : others ≡ digits = cc in subst (λ o. IsDecimal o (n + 1)) same whole))

-- a minus and a zero write nothing
pub minus_zero : (field digits : List ℕ) → field ≡ 45 ∷ digits → slice_index digits 0 ≡ 48 → (z : ℤ) → IsWhole field z → ⊥
minus_zero field digits all first (pos n) whole = (first_digit field whole.some whole.each).0 (ap (λ (o : List ℕ). get_or o 0 0) all)
minus_zero field digits all first (negsuc n) (others, e, whole) =
    let same : others ≡ digits = cc in
    let zero_first : slice_index others 0 ≡ 48 = ap (λ (o : List ℕ). get_or o 0 0) same ∙ first in
    absurd (lone others zero_first (whole.plain zero_first) (whole.value))
  where
    lone : (o : List ℕ) → slice_index o 0 ≡ 48 → length o ≡ 1 → n + 1 ≡ digits_value 10 o → ⊥
    lone [] first one value = omega (arith, first)
    lone (x ∷ y ∷ o) first one value = omega (arith, one)
    lone (x ∷ []) first one value = let e : n + 1 ≡ 0 = value ∙ ap (λ k. digits_value 10 (k ∷ [])) first in omega (arith, e)

-- digits are ASCII
ascii : (digits : List ℕ) → all_ascii_digits digits ≡ true → (i : ℕ) → get_or digits i 0 < 128
ascii [] each i = omega arith
ascii (x ∷ digits) each zero = let p = (tells_all_ascii_digits.parts x digits each).0 in omega (arith, p.1)
ascii (x ∷ digits) each (suc i) = ascii digits (tells_all_ascii_digits.parts x digits each).1 i

behind_minus : (digits : List ℕ) → all_ascii_digits digits ≡ true → (i : ℕ) → get_or (45 ∷ digits) i 0 < 128
behind_minus digits each zero = omega arith
behind_minus digits each (suc i) = ascii digits each i

-- and so a whole number is text
pub whole_text : (field : List ℕ) (z : ℤ) → IsWhole field z → IsUtf8 field
whole_text field (pos n) whole = IsUtf8-from_ascii field (ascii field whole.each)
whole_text field (negsuc n) (digits, e, whole) = subst IsUtf8 (sym e) (IsUtf8-from_ascii (45 ∷ digits) (behind_minus digits whole.each))

-- a field writes one number
pub one_number : (field : List ℕ) (y z : ℤ) → IsWhole field y → IsWhole field z → y ≡ z
one_number field (pos m) (pos n) first second = ap pos (first.value ∙ sym second.value)
one_number field (pos m) (negsuc n) first (digits, e, second) = absurd ((first_digit field first.some first.each).0 (ap (λ (o : List ℕ). get_or o 0 0) e))
one_number field (negsuc m) (pos n) (digits, e, first) second = absurd ((first_digit field second.some second.each).0 (ap (λ (o : List ℕ). get_or o 0 0) e))
one_number field (negsuc m) (negsuc n) (digits, e, first) (others, e', second) =
    let same : digits ≡ others = cc in
    let value : m + 1 ≡ n + 1 = first.value ∙ ap (digits_value 10) same ∙ sym second.value in
    ap negsuc (omega (arith, value))

-- a fault excludes each number of the range
pub no_number : (field : List ℕ) (from to z : ℤ) (f : NumberFault) → IsNumberFault from to field f → IsWhole field z → IsWithin from to z → ⊥
no_number field from to z fault.Form none whole within = none z whole
no_number field from to z fault.Range (y, writes, out) whole within = out (subst (IsWithin from to) (one_number field z y whole writes) within)

-- and the other fault
pub one_fault : (field : List ℕ) (from to : ℤ) (f g : NumberFault) → IsNumberFault from to field f → IsNumberFault from to field g → f ≡ g
one_fault field from to fault.Form fault.Form none other = refl
one_fault field from to fault.Form fault.Range none (y, writes, out) = absurd (none y writes)
one_fault field from to fault.Range fault.Form (y, writes, out) none = absurd (none y writes)
one_fault field from to fault.Range fault.Range first second = refl

-- what std reads of a whole number
read_plain : {E : Type 0} (field : List ℕ) (n : ℕ) (r : Result ℤ E) → IsDecimal field n → ParsesSigned w128 10 field r → MatchResult r (λ k. k ≡ pos n) (λ _. FitsSigned w128 (pos n) → ⊥)
read_plain {E} field n (Ok k) whole parses =
    let r : Result ℤ E = Ok k in
    let first = first_digit field whole.some whole.each in
    let p = OkIff-at_ok r _ _ k (parse_signed_plain own w128 field r parses first.1 first.0) refl in
    p.1 ∙ ap pos (sym whole.value)
read_plain {E} field n (Err e) whole parses =
    let r : Result ℤ E = Err e in
    let first = first_digit field whole.some whole.each in
    λ fits. parse_signed_plain own w128 field r parses first.1 first.0 (whole.each, whole.some, omega (arith, fits.sfits, whole.value))

read_minus : {E : Type 0} (field digits : List ℕ) (n : ℕ) (r : Result ℤ E) → field ≡ 45 ∷ digits → IsDecimal digits (n + 1) → ParsesSigned w128 10 field r → MatchResult r (λ k. k ≡ negsuc n) (λ _. FitsSigned w128 (negsuc n) → ⊥)
read_minus {E} field digits n (Ok k) all whole parses =
    let r : Result ℤ E = Ok k in
    let p = OkIff-at_ok r _ _ k (parse_signed_minus own w128 (45 ∷ digits) r (subst (λ o. ParsesSigned w128 10 o r) all parses) refl) refl in
    p.1 ∙ ap (λ v. neg_ℤ (pos v)) (sym whole.value ∙ add-one n)
read_minus {E} field digits n (Err e) all whole parses =
    let r : Result ℤ E = Err e in
    λ fits. parse_signed_minus own w128 (45 ∷ digits) r (subst (λ o. ParsesSigned w128 10 o r) all parses) refl (whole.each, whole.some, omega (arith, fits.sfits, whole.value))

read_whole : {E : Type 0} (field : List ℕ) (z : ℤ) (r : Result ℤ E) → IsWhole field z → ParsesSigned w128 10 field r → MatchResult r (λ k. k ≡ z) (λ _. FitsSigned w128 z → ⊥)
read_whole field (pos n) r whole parses = read_plain field n r whole parses
read_whole field (negsuc n) r (digits, e, whole) parses = read_minus field digits n r e whole parses

-- the number that a field writes, where it has 128 bits
pub number_read : {E : Type 0} (field text : List ℕ) (r : Result ℤ E) (o : Option ℤ) → text ≡ field → (z : ℤ) × IsWhole field z → ParsesSigned w128 10 text r → o ≡ result_ok r
    → MatchOption o ((z : ℤ) → IsWhole field z → FitsSigned w128 z → ⊥) (IsWhole field)
number_read {E} field text (Ok k) o same (z, whole) parses is =
    let r : Result ℤ E = Ok k in
    rw is (subst (IsWhole field) (sym (read_whole field z r whole (subst (λ x. ParsesSigned w128 10 x r) same parses))) whole)
number_read {E} field text (Err e) o same (z, whole) parses is =
    let r : Result ℤ E = Err e in
    rw is (λ y writes fits. read_whole field z r whole (subst (λ x. ParsesSigned w128 10 x r) same parses) (subst (FitsSigned w128) (one_number field y z writes whole) fits))

-- up to 64 bits a whole number is written as std writes it
pub decimal_is : (n : ℕ) → n < 2 ^ 64 → IsDecimal (decimal n) n
decimal_is zero small = rw (decimal_digit 0 (omega arith)) (record { some = omega arith; each = refl; plain = λ _. refl; value = refl })
decimal_is (suc n) small = record {
  some = decimal_nonempty (suc n) small;
  each = digits_decimal own (suc n) small;
  plain = λ e. absurd (let first = first_decimal (suc n) (omega arith) small in omega (arith, first, e));
  value = sym (digits_value-decimal own (suc n) small);
}

decimal_one : (digits : List ℕ) (n : ℕ) → n < 2 ^ 64 → IsDecimal digits n → digits ≡ decimal n
decimal_one digits n small is = sym (ap decimal is.value ∙ decimal-digits_value own digits is.each is.some is.plain (omega (arith, is.value)))

pub whole_written : (field : List ℕ) (z : ℤ) → unsigned_abs z < 2 ^ 64 → (IsWhole field z ↔ (field ≡ signed_decimal z))
whole_written field (pos n) small = (λ whole. decimal_one field n small whole, λ e. subst (λ o. IsDecimal o n) (sym e) (decimal_is n small))
whole_written field (negsuc n) small = (
  λ whole. whole.1 ∙ ap (λ o. 45 ∷ o) (decimal_one whole.0 (n + 1) (omega (arith, small)) whole.2 ∙ ap decimal (add-one n)),
  λ e. (decimal (suc n), e, subst (IsDecimal (decimal (suc n))) (sym (add-one n)) (decimal_is (suc n) small)),
)

-- what a failed `ok` says of the result that it was called on
pub ok_missing : {T E A : Type 0} (r : Result T E) (o : Option T) (P : T → Type 0) (Q : E → Type 0) → o ≡ None → o ≡ result_ok r → MatchResult r P Q → ((y : E) → Q y → A) → A
ok_missing (Ok x) o P Q none is h then = cc
ok_missing (Err y) o P Q none is h then = then y h

-- and what a value says
pub ok_found : {T E : Type 0} (r : Result T E) (o : Option T) (x : T) (P : T → Type 0) (Q : E → Type 0) → o ≡ Some x → o ≡ result_ok r → MatchResult r P Q → P x
ok_found (Ok y) o x P Q some is h = let e : y ≡ x = cc in subst P e h
ok_found (Err y) o x P Q some is h = cc
