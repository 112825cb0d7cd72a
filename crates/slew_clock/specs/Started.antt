-- The record that a clock starts with.
use Rattle.std.specs.Prelude.{ℕ, ℤ, pos, ◌≤ℤ◌, Option, IfSome, option_map}
use Rattle.dts_base.specs.declared.interval.Interval.{Interval}
use Rattle.slew_clock.specs.declared.limits.TheConstants.{GREATEST_TIME}
use Rattle.slew_clock.specs.declared.record.ClockRecord.{ClockRecord}

-- the ends of a first interval, where one is given, are times up to the greatest one
abbrev pub StartsWithin : Option Interval → Type 0
StartsWithin first = IfSome first (λ i. (pos 0 ≤ℤ i.lo) × (i.hi ≤ℤ GREATEST_TIME))

-- number 0, with no slew, and the first interval as its anchor where one is known
abbrev pub started : ℕ → ℤ → Option Interval → ClockRecord
started osc value first = record {
  number = 0;
  step = 0;
  born = osc;
  anchor = option_map (λ i. record { osc = osc; lo = i.lo; hi = i.hi }) first;
  a = record { from = osc; value = value; x = pos 0 };
  b = record { from = osc; x = pos 0 };
}
