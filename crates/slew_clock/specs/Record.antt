-- Records of the clock.
use Rattle.std.specs.Prelude.{◌≡◌, ◌⊎◌, ℕ, ◌+◌, ◌*◌, ◌/◌, ◌≤◌, ℤ, pos, neg_ℤ, ◌+ℤ◌, ◌≤ℤ◌, IfSome}
use Rattle.slew_clock.specs.declared.limits.TheConstants.{GREATEST_OSC, GREATEST_ANCHOR}
use Rattle.slew_clock.specs.declared.rates.TheConstants.{MILLION}
use Rattle.slew_clock.specs.declared.rates.Rates.{Rates}
use Rattle.slew_clock.specs.declared.record.Anchor.{Anchor}
use Rattle.slew_clock.specs.declared.record.ClockRecord.{ClockRecord}

-- where the line of a record ends
abbrev pub end_of : Rates → ClockRecord → ℕ
end_of r rec = rec.b.from + r.lease

-- the greatest slew over a whole lease
abbrev pub greatest_slew : Rates → ℕ
greatest_slew r = r.lease * r.slew_ppm / MILLION

-- x is at most the greatest slew, in either direction
abbrev pub IsSlew : Rates → ℤ → Type 0
IsSlew r x = (neg_ℤ (pos (greatest_slew r)) ≤ℤ x) × (x ≤ℤ pos (greatest_slew r))

-- an anchor of a record that was made at this oscillator reading
pub record IsSoundAnchor (born : ℕ) (anchor : Anchor) : Type 0 where
  pub before : anchor.osc ≤ born
  pub from : pos 0 ≤ℤ anchor.lo
  pub ordered : anchor.lo ≤ℤ anchor.hi
  pub to : anchor.hi ≤ℤ GREATEST_ANCHOR

-- a record that readings can be taken from
pub record IsSound (r : Rates) (rec : ClockRecord) : Type 0 where
  pub begun : rec.a.from ≤ rec.born
  pub born : rec.born ≤ GREATEST_OSC
  pub parts : (rec.b.from ≡ rec.a.from) ⊎ (rec.b.from ≡ rec.a.from + r.lease)
  pub a_slew : IsSlew r rec.a.x
  pub b_slew : IsSlew r rec.b.x
  pub value_from : pos 0 ≤ℤ rec.a.value
  pub value_to : rec.a.value ≤ℤ (GREATEST_ANCHOR +ℤ pos (2 * rec.a.from))
  pub anchor : IfSome rec.anchor (IsSoundAnchor rec.born)
  pub steps : rec.step ≤ rec.number
