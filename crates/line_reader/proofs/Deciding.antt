-- Each field writes a number of a range, or has a fault.
use Rattle.std.proofs.Common.{◌≡◌, ◌⊎◌, inl, inr, ℕ, ◌<◌, List, length, drop, Bool, true, false, ◌&&◌, ◌||◌, ◌==◌, not, ℤ, arith, refl}
use Rattle.std.specs.Prelude.{slice_index, ◌↔◌, ◌≤ℤ◌, IsTrue, nat_lt}
use Rattle.std.specs.Str.{all_ascii_digits}
use Rattle.std.specs.Str.Parse.{digits_value}
use Rattle.std.proofs.lemmas.Bool.{and_parts, cases_eq, false≢true}
use Rattle.std.proofs.lemmas.Int.{ints, by_lt_z}
use Rattle.line_reader.specs.declared.number.NumberFault.{NumberFault}
use Rattle.line_reader.specs.declared.number.NumberFault.TheVariants as fault
use Rattle.line_reader.specs.Numbers.{IsDecimal, IsWhole, IsWithin, IsNumberFault}
use Rattle.line_reader.proofs.Decimals.{plain_whole, minus_whole, minus_zero, behind_first}

by_test : {A : Type 0} (r : Bool) → (IsTrue r ↔ A) → A ⊎ (A → ⊥)
by_test true is = inl (is.0 refl)
by_test false is = inr (λ a. false≢true (is.1 a))

-- the digits write a number
is_decimal : List ℕ → Bool
is_decimal digits = nat_lt 0 (length digits) && (all_ascii_digits digits && (not (slice_index digits 0 == 48) || length digits == 1))

plain_or : (a b : ℕ) → (not (a == 48) || b == 1) ≡ true → a ≡ 48 → b ≡ 1
plain_or a b h zero = grind (arith)

or_plain : (a b : ℕ) → (a ≡ 48 → b ≡ 1) → (not (a == 48) || b == 1) ≡ true
or_plain a b h = grind (arith)

above : (n : ℕ) → nat_lt 0 n ≡ true → 0 < n
above n h = grind (arith)

is_above : (n : ℕ) → 0 < n → nat_lt 0 n ≡ true
is_above n h = grind (arith)

decimal_test : (digits : List ℕ) → IsTrue (is_decimal digits) ↔ IsDecimal digits (digits_value 10 digits)
unfolding is_decimal
decimal_test digits = (
  λ h.
      let first = and_parts (nat_lt 0 (length digits))
      (all_ascii_digits digits && (not (slice_index digits 0 == 48) || length digits == 1)) h in
      let second = and_parts (all_ascii_digits digits) (not (slice_index digits 0 == 48) || length digits == 1) first.1 in
      record {
        some =
            above (length digits) first.0;
        each = second.0;
        plain = plain_or (slice_index digits 0) (length digits) second.1;
        value = refl;
      },
  λ is. rw (is_above (length digits) is.some, is.each, or_plain (slice_index digits 0) (length digits) is.plain) refl,
)

whole_or_none : (field : List ℕ) → ((z : ℤ) × IsWhole field z) ⊎ ((z : ℤ) → IsWhole field z → ⊥)
whole_or_none field =
    let apart : (((z : ℤ) × IsWhole field z) ⊎ (((z : ℤ) × IsWhole field z) → ⊥)) → ((z : ℤ) × IsWhole field z)
    ⊎ ((z : ℤ) → IsWhole field z → ⊥) =
    λ d. elim d [ inl w ↦ inl w | inr none ↦ inr (λ z whole. none (z, whole)) ] in
    elim (cases_eq (slice_index field 0) 45) [
      | inr plain ↦ apart (by_test (is_decimal field) (plain_whole field (is_decimal field) plain (decimal_test field)))
      | inl minus ↦
          let all = behind_first field 45 (λ e. omega (arith, e)) minus in
          elim (cases_eq (slice_index (drop 1 field) 0) 48) [
            | inl zero ↦ inr (minus_zero field (drop 1 field) all zero)
            | inr some ↦ apart (by_test (is_decimal (drop 1 field))
                (minus_whole field (drop 1 field) (is_decimal (drop 1 field)) all some (decimal_test (drop 1 field))))
          ]
    ]

order_or : (a b : ℤ) → (a ≤ℤ b) ⊎ ((a ≤ℤ b) → ⊥)
order_or a b = by_lt_z b a (λ lt. inr (λ le. omega (arith, ints, lt, le))) inl

within_or : (from to z : ℤ) → IsWithin from to z ⊎ (IsWithin from to z → ⊥)
within_or from to z =
    elim (order_or from z) [
      | inr low ↦ inr (λ w. low w.0)
      | inl low ↦ elim (order_or z to) [ inl high ↦ inl (low, high) | inr high ↦ inr (λ w. high w.1) ]
    ]

pub number_or_fault : (field : List ℕ) (from to : ℤ)
    → ((z : ℤ) × IsWhole field z × IsWithin from to z) ⊎ ((f : NumberFault) × IsNumberFault from to field f)
number_or_fault field from to =
    elim (whole_or_none field) [
      | inr none ↦ inr (fault.Form, none)
      | inl (z, whole) ↦ elim (within_or from to z) [ inl within ↦ inl (z, whole, within) | inr out ↦ inr (fault.Range, (z, whole, out)) ]
    ]
