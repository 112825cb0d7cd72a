-- Facts of options and of values, for the words.
use Rattle.std.proofs.Common.{◌≡◌, ◌≤◌, ◌&&◌, ◌||◌, ◌==◌, ℕ, Bool, true, false, not, List, [], ◌∷◌, ◌++◌, map, flat_map, length, slice_index, Option, Some, None, IsSomeAnd, option_map, refl, sym, ap, ap₂, arith, lt-ltb, le-leb, leb-true, ltb-true, eq-eqb, eqb-true, if◌then◌else◌, nat_le}
use Rattle.std.specs.List.{join_by}
use Rattle.std.specs.Str.Parse.{digits_value}
use Rattle.line_reader.specs.Numbers.{IsDecimal}
use Rattle.clap.specs.Words.{Text}
use Rattle.command_words.specs.Words.{is_plain_number, number_in}

-- where the value that stands there is this one
pub some_only : {A : Type 0} (found : Option A) (x : A) → IsSomeAnd found (λ y. y ≡ x) → found ≡ Some x
some_only None x is = absurd is
some_only (Some y) x is = ap (λ z. Some z) is

-- two parts of what stands there
abbrev paired : {B C : Type 0} → B → C → Option (B × C)
paired b c = Some (b, c)

pub pair_found : {A B C : Type 0} (first : A → B) (second : A → C) (found : Option A) (x : B) (y : C) → Some x ≡ option_map first found
    → Some y ≡ option_map (λ (p : B × C). p.1) (option_map {T = A} {U = B × C} (λ a. (first a, second a)) found) → option_map {T = A} {U = B × C} (λ a. (first a, second a)) found ≡ Some (x, y)
pair_found first second None x y one two = cc
pair_found first second (Some a) x y one two = let e : first a ≡ x = cc in let f : second a ≡ y = cc in ap₂ paired e f

pub none_found : {A B C : Type 0} (first : A → B) (second : A → C) (found : Option A) → None ≡ option_map first found → option_map {T = A} {U = B × C} (λ a. (first a, second a)) found ≡ None
none_found first second None none = refl
none_found first second (Some a) none = cc

-- texts that are joined
rest_joined : {X : Type 0} (f : X → Text) (between : Text) (xs : List X) → flat_map (λ x. between ++ f x) xs ≡ flat_map (λ t. between ++ t) (map f xs)
rest_joined f between [] = refl
rest_joined f between (x ∷ xs) = ap (λ t. (between ++ f x) ++ t) (rest_joined f between xs)

pub texts_joined : {X : Type 0} (f : X → Text) (between : Text) (xs : List X) → join_by f between xs ≡ join_by (λ t. t) between (map f xs)
texts_joined f between [] = refl
texts_joined f between (x ∷ xs) = ap (λ t. f x ++ t) (rest_joined f between xs)

both : (a b : Bool) → (a && b) ≡ true → (a ≡ true) × (b ≡ true)
both true true e = (refl, refl)
both true false e = cc
both false b e = cc

-- a number in plain decimal is one
pub decimal_plain : (text : Text) (n : ℕ) → IsDecimal text n → is_plain_number text ≡ true
decimal_plain text n is = rw (lt-ltb 0 (length text) is.some, is.each) (last (slice_index text 0 == 48) refl)
  where
    last : (b : Bool) → (slice_index text 0 == 48) ≡ b → (not b || (length text == 1)) ≡ true
    last false e = refl
    last true e = eq-eqb (length text) 1 (is.plain (eqb-true (slice_index text 0) 48 e))

pub plain_decimal : (text : Text) → is_plain_number text ≡ true → IsDecimal text (digits_value 10 text)
plain_decimal text plain =
    let some = both _ _ plain in
    let each = both _ _ some.1 in
    record {
      some = ltb-true 0 (length text) some.0;
      each = each.0;
      plain = λ zero. eqb-true (length text) 1 (rw (eq-eqb (slice_index text 0) 48 zero) at each.1);
      value = refl;
    }

pub number_written : (most n : ℕ) (text : Text) → IsDecimal text n → n ≤ most → number_in most text ≡ Some n
number_written most n text is small =
    rw (decimal_plain text n is, le-leb (digits_value 10 text) most (omega (arith, small, is.value))) (ap (λ k. Some k) (sym is.value))

pub no_number_written : (most : ℕ) (text : Text) → ((n : ℕ) → IsDecimal text n → n ≤ most → ⊥) → number_in most text ≡ None
no_number_written most text none = go (is_plain_number text) (nat_le (digits_value 10 text) most) refl refl
  where
    go : (p q : Bool) → is_plain_number text ≡ p → nat_le (digits_value 10 text) most ≡ q → (if p && q then Some (digits_value 10 text) else None) ≡ None
    go true true e f = absurd (none (digits_value 10 text) (plain_decimal text e) (leb-true (digits_value 10 text) most f))
    go true false e f = refl
    go false q e f = refl
