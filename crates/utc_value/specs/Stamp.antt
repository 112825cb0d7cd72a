-- A timestamp as its four parts, and their ranges. Times are counted in units of 100 ns.
use Rattle.std.specs.Prelude.{◌≡◌, ℕ, ◌≤◌, ℤ, pos, neg_ℤ, ◌≤ℤ◌, FitsSigned, Option, Some, None}
use Rattle.std.specs.Int.{w64}
use Rattle.utc_value.specs.declared.TheConstants.{MAX_INACCURACY, MAX_TDF}
use Rattle.utc_value.specs.declared.Kind.{Kind}
use Rattle.utc_value.specs.declared.Kind.TheVariants.{Absolute, Relative}

-- a timestamp: the time, how far it may be wrong on either side (None: unspecified), the time differential factor in minutes, and
-- whether it is a moment or a length of time
pub record Stamp : Type 0 where
  pub time : ℤ
  pub inaccuracy : Option ℕ
  pub tdf : ℤ
  pub kind : Kind

-- an inaccuracy is unspecified, or at most 2^48 − 2: the 48 bits of all ones mean unspecified
abbrev pub IsInaccuracy : Option ℕ → Type 0
IsInaccuracy None = Unit {0}
IsInaccuracy (Some i) = i ≤ MAX_INACCURACY

-- a time differential factor is less than a day either way
abbrev pub IsTdf : ℤ → Type 0
IsTdf t = (neg_ℤ MAX_TDF ≤ℤ t) × (t ≤ℤ MAX_TDF)

-- a relative timestamp has no time differential factor
abbrev pub IsTdfOf : Kind → ℤ → Type 0
IsTdfOf Absolute t = IsTdf t
IsTdfOf Relative t = t ≡ pos 0

-- each part is in its range
pub record IsInRange (s : Stamp) : Type 0 where
  pub time_fits : FitsSigned w64 s.time
  pub inaccuracy_fits : IsInaccuracy s.inaccuracy
  pub tdf_fits : IsTdfOf s.kind s.tdf

-- the moment of that time
abbrev pub absolute_stamp : ℤ → Option ℕ → ℤ → Stamp
absolute_stamp time inaccuracy tdf = record { time = time; inaccuracy = inaccuracy; tdf = tdf; kind = Absolute }

-- the length of time
abbrev pub relative_stamp : ℤ → Option ℕ → Stamp
relative_stamp time inaccuracy = record { time = time; inaccuracy = inaccuracy; tdf = pos 0; kind = Relative }
