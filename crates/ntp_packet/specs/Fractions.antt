-- Exact fractions: a whole number over a whole number above 0. They are compared crosswise, and rounded to whole numbers.
use Rattle.std.specs.Prelude.{ℕ, ◌*◌, ℤ, pos, neg_ℤ, ◌+ℤ◌, ◌-ℤ◌, ◌*ℤ◌, ◌≤ℤ◌}
use Rattle.std.specs.Int.{int_div_euclid}

pub record Fraction : Type 0 where
  pub over : ℤ
  pub under : ℕ

abbrev pub whole : ℤ → Fraction
whole z = record { over = z; under = 1 }

abbrev pub plus : Fraction → Fraction → Fraction
plus a b = record { over = (a.over *ℤ pos b.under) +ℤ (b.over *ℤ pos a.under); under = a.under * b.under }

abbrev pub minus : Fraction → Fraction → Fraction
minus a b = record { over = (a.over *ℤ pos b.under) -ℤ (b.over *ℤ pos a.under); under = a.under * b.under }

abbrev pub IsAtMost : Fraction → Fraction → Type 0
IsAtMost a b = (a.over *ℤ pos b.under) ≤ℤ (b.over *ℤ pos a.under)

-- rounded towards the lesser
abbrev pub floor_of : Fraction → ℤ
floor_of a = int_div_euclid a.over (pos a.under)

-- rounded towards the greater
abbrev pub ceiling_of : Fraction → ℤ
ceiling_of a = neg_ℤ (int_div_euclid (neg_ℤ a.over) (pos a.under))
