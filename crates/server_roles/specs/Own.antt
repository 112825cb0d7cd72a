-- The interval of a node's own clock. Our own choice.
use Rattle.std.specs.Prelude.{ℕ, ℤ, int_le, Option, Some, None, option_and_then, if◌then◌else◌}
use Rattle.slew_clock.specs.declared.limits.TheConstants.{GREATEST_ANCHOR}
use Rattle.slew_clock.specs.declared.record.ClockRecord.{ClockRecord}
use Rattle.slew_clock.specs.Reading.{interval_of}
use Rattle.roster.specs.declared.settings.Role.{Role}
use Rattle.roster.specs.declared.settings.Role.TheVariants as role
use Rattle.roster.specs.RosterData.{RosterData}
use Rattle.roster.specs.Rates.{rates_of}

-- an interval that a record can be anchored to
abbrev pub up_to_anchor : ℤ × ℤ → Option (ℤ × ℤ)
up_to_anchor i = if int_le i.1 GREATEST_ANCHOR then Some i else None

-- a server brings it into its rounds, and a clerk does not
abbrev pub brought_by : Role → Option (ℤ × ℤ) → Option (ℤ × ℤ)
brought_by role.Clerk own = None
brought_by role.Server own = option_and_then up_to_anchor own

-- that of the record, where it has one and its high end is not too great
abbrev pub own_interval : RosterData → ClockRecord → ℕ → Option (ℤ × ℤ)
own_interval r rec osc = brought_by r.settings.role (interval_of (rates_of r.settings) rec osc)
