-- The interval around a time.
use Rattle.std.proofs.Common.{arith}
use Rattle.std.specs.Prelude.{ℕ, pos, ◌+ℤ◌, ◌-ℤ◌, ◌≤ℤ◌}
use Rattle.std.proofs.lemmas.Int.{ints}
use Rattle.dts_base.specs.declared.interval.Interval.{Interval}

-- its ends are in order
pub ends_ordered : (time error : ℕ) → (pos time -ℤ pos error) ≤ℤ (pos time +ℤ pos error)
ends_ordered time error = omega (arith, ints)

-- it reaches so far from the time, either way
abbrev pub interval_around : ℕ → ℕ → Interval
interval_around time error = record { lo = pos time -ℤ pos error; hi = pos time +ℤ pos error; ordered = ends_ordered time error }
