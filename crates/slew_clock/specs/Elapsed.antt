-- How much time can have passed where an oscillator went on by x units.
use Rattle.std.specs.Prelude.{ℕ, ◌+◌, ◌-◌, ◌*◌, ℤ, pos, ◌+ℤ◌, ◌≤ℤ◌}
use Rattle.std.specs.Int.{div_ceil}
use Rattle.slew_clock.specs.declared.rates.TheConstants.{MILLION}
use Rattle.slew_clock.specs.declared.rates.Rates.{Rates}

-- the drift over x units, rounded up
abbrev pub drift_of : Rates → ℕ → ℕ
drift_of r x = div_ceil (x * r.drift_ppm) MILLION

-- the most that passed
abbrev pub most : Rates → ℕ → ℕ
most r x = x + drift_of r x + r.resolution

-- the least that passed, which is never below 0
abbrev pub least : Rates → ℕ → ℕ
least r x = x - drift_of r x - r.resolution

-- so much true time may pass while the oscillator goes on by x units
abbrev pub MayElapse : Rates → ℕ → ℤ → Type 0
MayElapse r x time = (pos (least r x) ≤ℤ time) × (time ≤ℤ pos (most r x))

-- an answer [lo, hi] is right where it held true time at some moment between its asking and its coming, when true time was `asked` and `got`
abbrev pub IsRight : (lo hi asked got : ℤ) → Type 0
IsRight lo hi asked got = (lo ≤ℤ got) × (asked ≤ℤ hi)

-- an answer [lo, hi] that was asked for at one oscillator reading and came at another, carried on to a third:
-- true time there is in this interval where the answer held true time at some moment between asking and coming
abbrev pub carried : Rates → (lo hi : ℤ) → (asked got now : ℕ) → ℤ × ℤ
carried r lo hi asked got now = (lo +ℤ pos (least r (now - got)), hi +ℤ pos (most r (now - asked)))
