-- Which interval is adopted of several, of which fewer than half may be false. All is said of points: whole numbers. After Marzullo.
use Rattle.std.specs.Prelude.{ℕ, ◌+◌, ◌/◌, ◌≤◌, ◌&&◌, Bool, ℤ, ◌≤ℤ◌, int_le, List, length, count_by}
use Rattle.dts_base.specs.declared.interval.Interval.{Interval}

-- an interval by its ends, which both belong to it
abbrev pub ends_of : Interval → ℤ × ℤ
ends_of i = (i.lo, i.hi)

-- the point is in the interval
abbrev pub Holds : ℤ × ℤ → ℤ → Type 0
Holds i p = (i.0 ≤ℤ p) × (p ≤ℤ i.1)

abbrev pub holds : ℤ × ℤ → ℤ → Bool
holds i p = int_le i.0 p && int_le p i.1

-- the two intervals have no point in common
abbrev pub AreApart : ℤ × ℤ → ℤ × ℤ → Type 0
AreApart i j = (p : ℤ) → Holds i p → Holds j p → ⊥

-- how many of the intervals hold the point
abbrev pub count : List (ℤ × ℤ) → ℤ → ℕ
count s p = count_by (λ i. holds i p) s

-- how many of n intervals have to hold a point: more than half of them
abbrev pub need : ℕ → ℕ
need n = n / 2 + 1

-- enough of the intervals hold the point
abbrev pub IsAgreed : List (ℤ × ℤ) → ℤ → Type 0
IsAgreed s p = need (length s) ≤ count s p

abbrev pub NoneIsAgreed : List (ℤ × ℤ) → Type 0
NoneIsAgreed s = (p : ℤ) → IsAgreed s p → ⊥

abbrev pub IsLeastAgreed : List (ℤ × ℤ) → ℤ → Type 0
IsLeastAgreed s p = IsAgreed s p × ((q : ℤ) → IsAgreed s q → p ≤ℤ q)

abbrev pub IsGreatestAgreed : List (ℤ × ℤ) → ℤ → Type 0
IsGreatestAgreed s p = IsAgreed s p × ((q : ℤ) → IsAgreed s q → q ≤ℤ p)

-- the adopted interval, from the least to the greatest point that enough of the intervals hold
pub record IsAdopted (s : List (ℤ × ℤ)) (i : ℤ × ℤ) : Type 0 where
  pub least : IsLeastAgreed s i.0
  pub greatest : IsGreatestAgreed s i.1
