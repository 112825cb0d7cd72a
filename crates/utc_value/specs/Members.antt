-- The whole times that a timestamp may stand for.
use Rattle.std.specs.Prelude.{ℕ, ℤ, pos, ◌+ℤ◌, ◌-ℤ◌, ◌≤ℤ◌, Option, Some, None}
use Rattle.std.specs.Option.{option_map}
use Rattle.utc_value.specs.Stamp.{Stamp}

-- the earliest time: the time minus the inaccuracy, where that is specified
abbrev pub earliest_of : Stamp → Option ℤ
earliest_of s = option_map (λ i. s.time -ℤ pos i) s.inaccuracy

-- the latest time: the time plus the inaccuracy, where that is specified
abbrev pub latest_of : Stamp → Option ℤ
latest_of s = option_map (λ i. s.time +ℤ pos i) s.inaccuracy

-- x lies at most the inaccuracy from t; with an unspecified inaccuracy every whole time does
abbrev pub IsNear : ℤ → Option ℕ → ℤ → Type 0
IsNear t None x = Unit {0}
IsNear t (Some i) x = ((t -ℤ pos i) ≤ℤ x) × (x ≤ℤ (t +ℤ pos i))

-- the members of a timestamp: the whole times from its earliest to its latest
abbrev pub IsMember : Stamp → ℤ → Type 0
IsMember s x = IsNear s.time s.inaccuracy x
