-- Whole numbers as texts.
use Rattle.std.specs.Prelude.{◌≡◌, ℕ, ◌+◌, ◌<◌, List, ◌∷◌, length, slice_index, ℤ, pos, negsuc, ◌≤ℤ◌, IsTrue}
use Rattle.std.specs.Str.{all_ascii_digits}
use Rattle.std.specs.Str.Parse.{digits_value}
use Rattle.line_reader.specs.declared.number.NumberFault.{NumberFault}
use Rattle.line_reader.specs.declared.number.NumberFault.TheVariants as fault

-- the octets write the number in decimal: one digit or more, and a zero stands in front only alone
pub record IsDecimal (digits : List ℕ) (n : ℕ) : Type 0 where
  pub some : 0 < length digits
  pub each : IsTrue (all_ascii_digits digits)
  pub plain : slice_index digits 0 ≡ 48 → length digits ≡ 1
  pub value : n ≡ digits_value 10 digits

-- the field writes the whole number: in decimal, and with `-` before a negative one
abbrev pub IsWhole : List ℕ → ℤ → Type 0
IsWhole field (pos n) = IsDecimal field n
IsWhole field (negsuc n) = (digits : List ℕ) × (field ≡ 45 ∷ digits) × IsDecimal digits (n + 1)

abbrev pub IsWithin : ℤ → ℤ → ℤ → Type 0
IsWithin from to z = (from ≤ℤ z) × (z ≤ℤ to)

-- why a field is no number from one to another
abbrev pub IsNumberFault : ℤ → ℤ → List ℕ → NumberFault → Type 0
IsNumberFault from to field fault.Form = (z : ℤ) → IsWhole field z → ⊥
IsNumberFault from to field fault.Range = (z : ℤ) × IsWhole field z × (IsWithin from to z → ⊥)
