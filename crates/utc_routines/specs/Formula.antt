-- What the private helpers compute.
use Rattle.std.specs.Prelude.{◌≡◌, ℕ, ◌+◌, ◌*◌, ◌^◌, ℤ, pos, neg_ℤ, ◌+ℤ◌, ◌-ℤ◌, ◌≤ℤ◌, ◌<ℤ◌, unsigned_abs, Option, Some, None}
use Rattle.utc_value.specs.Stamp.{Stamp}
use Rattle.utc_routines.specs.declared.Order4.{Order4}
use Rattle.utc_routines.specs.declared.Order4.TheVariants.{EqualTo, LessThan, GreaterThan, Indeterminate}
use Rattle.utc_routines.specs.Interval.{stated}

-- the inaccuracies of two operands together
abbrev pub added : Option ℕ → Option ℕ → Option ℕ
added None j = None
added (Some i) None = None
added (Some i) (Some j) = stated (i + j)

-- an inaccuracy k times, whichever sign k has
abbrev pub multiplied : Option ℕ → ℤ → Option ℕ
multiplied None k = None
multiplied (Some i) k = stated (i * unsigned_abs k)

-- x is less than 66 bits long, so that sums of a few of them fit 128
abbrev pub IsSmall : ℤ → Type 0
IsSmall x = (neg_ℤ (pos (2 ^ 65)) ≤ℤ x) × (x ≤ℤ pos (2 ^ 65))

-- low and high are the ends of a timestamp's interval
pub record AreEnds (s : Stamp) (low high : ℤ) : Type 0 where
  pub half : ℕ
  pub specified : s.inaccuracy ≡ Some half
  pub at_low : low ≡ s.time -ℤ pos half
  pub at_high : high ≡ s.time +ℤ pos half

-- both intervals are the same one point
pub record AreSamePoint (low high l h : ℤ) : Type 0 where
  pub first : low ≡ high
  pub second : l ≡ h
  pub both : low ≡ l

-- how the interval from low to high lies to that from l to h
abbrev pub IsEndsOrder : ℤ → ℤ → ℤ → ℤ → Order4 → Type 0
IsEndsOrder low high l h EqualTo = AreSamePoint low high l h
IsEndsOrder low high l h LessThan = high <ℤ l
IsEndsOrder low high l h GreaterThan = h <ℤ low
IsEndsOrder low high l h Indeterminate = (¬ AreSamePoint low high l h) × (l ≤ℤ high) × (low ≤ℤ h)
