-- What a round keeps of its queries, so that each answer can be carried on.
use Rattle.std.specs.Prelude.{ℕ, ◌≤◌, pos, ◌≤ℤ◌}
use Rattle.dts_base.specs.declared.interval.Interval.{Interval}
use Rattle.slew_clock.specs.declared.limits.TheConstants.{GREATEST_TIME}
use Rattle.clerk.specs.declared.query.QueryState.{QueryState}
use Rattle.clerk.specs.declared.query.QueryState.TheVariants as state

-- both ends of an interval are times of the clock
abbrev pub IsAnswer : Interval → Type 0
IsAnswer i = (pos 0 ≤ℤ i.lo) × (i.hi ≤ℤ GREATEST_TIME)

-- an answer is one, and was got when it had been asked, and by the latest oscillator reading
abbrev pub IsSound : ℕ → QueryState → Type 0
IsSound latest (state.Answered asked got i) = IsAnswer i × (asked ≤ got) × (got ≤ latest)
IsSound latest _ = Unit {0}
