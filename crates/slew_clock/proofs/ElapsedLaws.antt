-- Laws of elapsed time.
use Rattle.std.proofs.Common.{◌≡◌, ℕ, ◌+◌, ◌*◌, ◌/◌, ◌%◌, ◌≤◌, min, pos, sym, ap, ◌∙◌, arith}
use Rattle.std.specs.Int.{abs_diff, div_ceil}
use Rattle.std.proofs.lemmas.Int.{ints}
use Rattle.std.proofs.Math.Nat.{mul-le-mul_left, mul-le-mul_right, zero-mul, add-mul, div-add-mod'}
use Rattle.slew_clock.specs.declared.rates.Rates.{Rates}
use Rattle.slew_clock.specs.Elapsed.{drift_of, most, least, MayElapse}

-- no drift without time
pub drift-zero : (r : Rates) → drift_of r 0 ≡ 0
drift-zero r = ap (λ v. v / 1000000 + min 1 (v % 1000000)) (zero-mul r.drift_ppm)

pub least-zero : (r : Rates) → least r 0 ≡ 0
least-zero r = omega arith

pub most-zero : (r : Rates) → most r 0 ≡ r.resolution
most-zero r = omega (arith, drift-zero r)

-- the drift over x units is at most x
pub drift_within : (r : Rates) (x : ℕ) → drift_of r x ≤ x
drift_within r x = omega (arith, mul-le-mul_left x r.drift_in_range)

-- it grows with the time
pub drift_rises : (r : Rates) (x y : ℕ) → x ≤ y → drift_of r x ≤ drift_of r y
drift_rises r x y h = omega (arith, mul-le-mul_right r.drift_ppm h)

-- what passed is at least `least` and at most `most`: x is between them
pub least_within : (r : Rates) (x : ℕ) → least r x ≤ x
least_within r x = omega arith

pub most_from : (r : Rates) (x : ℕ) → x ≤ most r x
most_from r x = omega arith

pub most_rises : (r : Rates) (x y : ℕ) → x ≤ y → most r x ≤ most r y
most_rises r x y h = omega (arith, drift_rises r x y h)

-- what differs from the oscillator by no more than the drift and the resolution may elapse
pub may_elapse : (r : Rates) (x t : ℕ) → abs_diff t x * 1000000 ≤ x * r.drift_ppm + r.resolution * 1000000 → MayElapse r x (pos t)
may_elapse r x t h = (omega (arith, ints), omega (arith, ints))

-- and what differs by a unit more may not
pub may_not_elapse : (r : Rates) (x t : ℕ) → x * r.drift_ppm + (r.resolution + 1) * 1000000 ≤ abs_diff t x * 1000000 → MayElapse r x (pos t) → ⊥
may_not_elapse r x t h may = omega (arith, ints, may)

-- ---- the drift over x units, by the whole millions of them and the rest
ceil_apart : (a b : ℕ) → div_ceil (a + b * 1000000) 1000000 ≡ b + div_ceil a 1000000
ceil_apart a b = omega arith

parts_apart : (x p : ℕ) → x * p ≡ x % 1000000 * p + x / 1000000 * p * 1000000
parts_apart x p =
    let parts : x / 1000000 * 1000000 + x % 1000000 ≡ x = div-add-mod' x 1000000 in
    ap (λ v. v * p) (sym parts) ∙ add-mul (x / 1000000 * 1000000) (x % 1000000) p ∙ omega arith

pub drift_apart : (x p : ℕ) → div_ceil (x * p) 1000000 ≡ x / 1000000 * p + div_ceil (x % 1000000 * p) 1000000
drift_apart x p = ap (λ v. div_ceil v 1000000) (parts_apart x p) ∙ ceil_apart (x % 1000000 * p) (x / 1000000 * p)
