-- What a reading of a record says.
use Rattle.std.specs.Prelude.{◌≡◌, ℕ, ◌-◌, max, nat_le, if◌then◌else◌, ℤ, pos, negsuc, ◌+ℤ◌, ◌-ℤ◌, Option, Some, None, option_map, option_and_then}
use Rattle.slew_clock.specs.declared.rates.Rates.{Rates}
use Rattle.slew_clock.specs.declared.limits.TheConstants.{GREATEST_INACCURACY}
use Rattle.slew_clock.specs.declared.record.Anchor.{Anchor}
use Rattle.slew_clock.specs.declared.record.ClockRecord.{ClockRecord}
use Rattle.slew_clock.specs.declared.reading.Reading.{Reading}
use Rattle.slew_clock.specs.Elapsed.{least, most}
use Rattle.slew_clock.specs.Line.{line}

-- both ends of an anchor's interval at an oscillator reading: the least and the most that can have passed since are added
abbrev pub ends_since : Rates → Anchor → ℕ → ℤ × ℤ
ends_since r a o = (a.lo +ℤ pos (least r (o - a.osc)), a.hi +ℤ pos (most r (o - a.osc)))

-- the interval that holds true time: that of the anchor, where there is one
unfoldable pub interval_of : Rates → ClockRecord → ℕ → Option (ℤ × ℤ)
interval_of r rec o = option_map (λ a. ends_since r a o) rec.anchor

-- a number, or 0 where it is negative
abbrev pub or_zero : ℤ → ℕ
or_zero (pos n) = n
or_zero (negsuc n) = 0

-- how far the first number is above the second one, and 0 where it isn't
abbrev pub above : ℤ → ℤ → ℕ
above a b = or_zero (a -ℤ b)

-- how far a value is from the farther end of an interval, and 0 at the least
abbrev pub reach : ℤ → ℤ × ℤ → ℕ
reach value i = max (above value i.0) (above i.1 value)

-- an inaccuracy, which is unspecified above the greatest one
abbrev pub specified : ℕ → Option ℕ
specified n = if nat_le n GREATEST_INACCURACY then Some n else None

-- the inaccuracy: how far the line is from the farther end of the interval
unfoldable pub inaccuracy_of : Rates → ClockRecord → ℕ → Option ℕ
inaccuracy_of r rec o = option_and_then (λ i. specified (reach (line r rec o) i)) (interval_of r rec o)

-- the reading of a record at an oscillator reading
pub record IsReading (r : Rates) (rec : ClockRecord) (o : ℕ) (reading : Reading) : Type 0 where
  pub value : reading.value ≡ line r rec o
  pub inaccuracy : reading.inaccuracy ≡ inaccuracy_of r rec o
  pub step : reading.step ≡ rec.step
  pub number : reading.number ≡ rec.number
  pub osc : reading.osc ≡ o
