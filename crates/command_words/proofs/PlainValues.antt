-- What clap makes of a number in plain decimal.
use Rattle.std.proofs.Common.{◌≡◌, ◌∙◌, ◌≤◌, ◌<◌, ◌&&◌, ◌||◌, ◌==◌, ◌-◌, ◌^◌, ℕ, Bool, true, false, not, cond, [], ◌∷◌, length, drop, Some, None, refl, sym, ap, ap₂, arith, lt-ltb, le-leb, leb-true, ltb-true, eqb-true, if◌then◌else◌, nat_le, nat_lt, option_and_then, true≢false}
use Rattle.std.specs.Prelude.{bytes_eq}
use Rattle.std.specs.List.{list_all}
use Rattle.std.specs.Char.{digit_value}
use Rattle.std.specs.Str.{all_ascii_digits}
use Rattle.std.specs.Str.Parse.{digits_value, without_leading_plus}
use Rattle.clap.specs.Lexer.{long_of, long_of_rest, short_of, short_of_rest, strip_byte}
use Rattle.clap.specs.ValueTests.{is_unsigned_in, is_numeral}
use Rattle.clap.specs.Words.{Text}
use Rattle.command_words.specs.Words.{is_plain_number, number_in}

-- the word begins with no hyphen
pub record IsValue (word : Text) : Type 0 where
  pub dashes : bytes_eq word (45 ∷ 45 ∷ []) ≡ false
  pub long : long_of word ≡ None
  pub short : short_of word ≡ None

pub both : (a b : Bool) → (a && b) ≡ true → (a ≡ true) × (b ≡ true)
both true true e = (refl, refl)
both true false e = absurd (true≢false (sym e))
both false b e = absurd (true≢false (sym e))

-- a word of which the first octet is no hyphen
pub value_from : (x : ℕ) (xs : Text) → (x == 45) ≡ false → IsValue (x ∷ xs)
value_from x xs e = record {
  dashes = ap (λ b. b && bytes_eq xs (45 ∷ [])) e;
  long = ap (λ b. option_and_then long_of_rest (option_and_then (strip_byte 45) (if b then Some xs else None))) e;
  short = ap (λ b. option_and_then short_of_rest (if b then Some xs else None)) e;
}

-- a digit is no hyphen and no plus, and has a value below ten
digit_bounds : (x : ℕ) → (nat_le 48 x && nat_le x 57) ≡ true → (48 ≤ x) × (x ≤ 57)
digit_bounds x e = let parts = both (nat_le 48 x) (nat_le x 57) e in (leb-true 48 x parts.0, leb-true x 57 parts.1)

pub no_eq : (x y : ℕ) → (x ≡ y → ⊥) → (x == y) ≡ false
no_eq x y differ = go (x == y) refl
  where
    go : (b : Bool) → (x == y) ≡ b → b ≡ false
    go true e = absurd (differ (eqb-true x y e))
    go false e = refl

pub no_lt : (x y : ℕ) → y ≤ x → nat_lt x y ≡ false
no_lt x y le = go (nat_lt x y) refl
  where
    go : (b : Bool) → nat_lt x y ≡ b → b ≡ false
    go true e = let lt = ltb-true x y e in absurd (omega (arith, lt, le))
    go false e = refl

low_digit : (x : ℕ) → 48 ≤ x → x ≤ 57 → nat_lt (digit_value x) 10 ≡ true
low_digit x low high =
    let value : digit_value x ≡ x - 48 =
    ap (λ b. cond b 36 (cond (nat_lt x 58) (x - 48) (cond (nat_lt x 65) 36 (cond (nat_lt x 91) (x - 55) (cond (nat_lt x 97) 36 (cond (nat_lt x 123) (x - 87) 36)))))) (no_lt x 48 low)
    ∙ ap (λ b. cond b (x - 48) (cond (nat_lt x 65) 36 (cond (nat_lt x 91) (x - 55) (cond (nat_lt x 97) 36 (cond (nat_lt x 123) (x - 87) 36))))) (lt-ltb x 58 (omega (arith, high))) in
    ap (λ d. nat_lt d 10) value ∙ lt-ltb (x - 48) 10 (omega (arith, low, high))

digits_low : (text : Text) → all_ascii_digits text ≡ true → list_all (λ d. nat_lt (digit_value d) 10) text ≡ true
digits_low [] e = refl
digits_low (x ∷ xs) e =
    let parts = both (nat_le 48 x && nat_le x 57) (all_ascii_digits xs) e in
    let bounds = digit_bounds x parts.0 in
    ap₂ (λ a b. a && b) (low_digit x bounds.0 bounds.1) (digits_low xs parts.1)

-- what a plain number is to clap
pub record IsNumber (text : Text) : Type 0 where
  pub value : IsValue text
  pub numeral : is_numeral text ≡ true
  pub sign : without_leading_plus text ≡ text

pub number_plain : (text : Text) → is_plain_number text ≡ true → IsNumber text
number_plain [] e = absurd (true≢false (sym e))
number_plain (x ∷ xs) e =
    let each = (both (all_ascii_digits (x ∷ xs)) (not (x == 48) || (length (x ∷ xs) == 1)) (both (nat_lt 0 (length (x ∷ xs))) _ e).1).0 in
    let first = digit_bounds x (both (nat_le 48 x && nat_le x 57) (all_ascii_digits xs) each).0 in
    record {
      value = value_from x xs (no_eq x 45 (λ same. omega (arith, same, first.0)));
      numeral = ap₂ (λ a b. a && b) (both (nat_lt 0 (length (x ∷ xs))) _ e).0 (digits_low (x ∷ xs) each);
      sign = ap (λ b. drop (cond b 1 0) (x ∷ xs)) (no_eq x 43 (λ same. omega (arith, same, first.0)));
    }

-- a plain number in a range is one to clap
pub number_taken : (least most : ℕ) (text : Text) → is_plain_number text ≡ true → least ≤ digits_value 10 text → digits_value 10 text ≤ most → most < 2 ^ 64 → is_unsigned_in least most text ≡ true
number_taken least most text plain low high small =
    let number = number_plain text plain in
    rw number.sign (rw (number.numeral, lt-ltb (digits_value 10 text) (2 ^ 64) (omega (arith, high, small)), le-leb least (digits_value 10 text) low, le-leb (digits_value 10 text) most high) refl)

pub number_in_range : (most : ℕ) (text : Text) → is_plain_number text ≡ true → digits_value 10 text ≤ most → number_in most text ≡ Some (digits_value 10 text)
number_in_range most text plain high = rw (plain, le-leb (digits_value 10 text) most high) refl

-- a word that writes a number is a plain one in the range
pub number_is : (most n : ℕ) (text : Text) → number_in most text ≡ Some n → (is_plain_number text ≡ true) × (digits_value 10 text ≤ most)
number_is most n text e = go (is_plain_number text) (nat_le (digits_value 10 text) most) refl refl e
  where
    go : (p q : Bool) → is_plain_number text ≡ p → nat_le (digits_value 10 text) most ≡ q → (if p && q then Some (digits_value 10 text) else None) ≡ Some n → (is_plain_number text ≡ true) × (digits_value 10 text ≤ most)
    go true true plain high e = (plain, leb-true (digits_value 10 text) most high)
    go true false plain high e = cc
    go false q plain high e = cc
