-- Laws of the record that a clock starts with.
use Rattle.std.proofs.Common.{◌≡◌, ℕ, ◌+◌, ◌-◌, ◌/◌, ◌^◌, ◌≤◌, min, ℤ, pos, ◌+ℤ◌, ◌≤ℤ◌, Option, Some, None, IfSome, refl, ap, ◌∙◌, inl, arith, lit≤}
use Rattle.std.proofs.lemmas.Int.{ints}
use Rattle.std.proofs.Math.Nat.{zero-div, zero-mul, add-zero, le_trans}
use Rattle.dts_base.specs.declared.interval.Interval.{Interval}
use Rattle.slew_clock.specs.declared.rates.Rates.{Rates}
use Rattle.slew_clock.specs.Record.{IsSlew, IsSound, IsSoundAnchor}
use Rattle.slew_clock.specs.Line.{advance, line}
use Rattle.slew_clock.specs.Reading.{ends_since, interval_of}
use Rattle.slew_clock.specs.Started.{started, StartsWithin}
use Rattle.slew_clock.proofs.LineLaws.{line_second}
use Rattle.slew_clock.proofs.ReadingLaws.{interval-none, interval-some}

-- no slew is allowed by all rates
pub no_slew : (r : Rates) → IsSlew r (pos 0)
no_slew r = (omega (arith, ints), omega (arith, ints))

-- with no slew the clock goes on as the oscillator does
pub advance_level : (r : Rates) (e : ℕ) → advance r (pos 0) e ≡ pos e
advance_level r e = ap (λ v. pos (e + v / r.lease)) (zero-mul e) ∙ ap (λ v. pos (e + v)) (zero-div r.lease) ∙ ap pos (add-zero e)

-- the line of a started record: the value and what the oscillator went on by, up to the end of the lease
pub started_line : (r : Rates) (osc : ℕ) (value : ℤ) (first : Option Interval) (o : ℕ) → osc ≤ o → line r (started osc value first) o ≡ value +ℤ pos (min (o - osc) r.lease)
started_line r osc value first o h =
    let met = advance_level r (osc - osc) in
    let on = advance_level r (min o (osc + r.lease) - osc) in
    line_second r (started osc value first) o h ∙ omega (arith, ints, met, on)

-- it never falls
pub started_line_never_falls : (r : Rates) (osc : ℕ) (value : ℤ) (first : Option Interval) (o p : ℕ) → osc ≤ o → o ≤ p → line r (started osc value first) o ≤ℤ line r (started osc value first) p
started_line_never_falls r osc value first o p h later =
    rw (started_line r osc value first o h, started_line r osc value first p (le_trans h later)) (omega (arith, ints))

-- with no first interval a started record has none
pub started_interval-none : (r : Rates) (osc : ℕ) (value : ℤ) (o : ℕ) → interval_of r (started osc value None) o ≡ None
started_interval-none r osc value o = interval-none r (started osc value None) o refl

-- else it is that of the first one
pub started_interval-some : (r : Rates) (osc : ℕ) (value : ℤ) (i : Interval) (o : ℕ) → interval_of r (started osc value (Some i)) o ≡ Some (ends_since r (record { osc = osc; lo = i.lo; hi = i.hi }) o)
started_interval-some r osc value i o = interval-some r (started osc value (Some i)) o (record { osc = osc; lo = i.lo; hi = i.hi }) refl

-- a started record is sound for all rates
pub started_sound : (r : Rates) (osc : ℕ) (value : ℤ) (first : Option Interval) → osc ≤ 2 ^ 60 → pos 0 ≤ℤ value → value ≤ℤ pos (2 ^ 61) → StartsWithin first → IsSound r (started osc value first)
started_sound r osc value first h from to within = record {
  begun = omega arith;
  born = h;
  parts = inl refl;
  a_slew = no_slew r;
  b_slew = no_slew r;
  value_from = from;
  value_to = omega (arith, ints, to);
  anchor = anchored first within;
  steps = lit≤ tt;
}
  where
    anchored : (first : Option Interval) → StartsWithin first → IfSome (started osc value first).anchor (IsSoundAnchor osc)
    anchored None within = tt
    anchored (Some i) within = record { before = omega arith; from = within.0; ordered = i.ordered; to = omega (arith, ints, within.1) }
