-- What the line gains as the oscillator goes on, as a quotient of whole numbers: with y = lease + x it is y * e / lease.
use Rattle.std.proofs.Common.{◌≡◌, ℕ, zero, suc, ◌+◌, ◌-◌, ◌*◌, ◌/◌, ◌%◌, ◌<◌, ℤ, pos, negsuc, ◌+ℤ◌, ◌*ℤ◌, neg_ℤ, ap, ◌∙◌, arith, mod-lt, div-lt_iff_lt-mul}
use Rattle.std.proofs.Math.Nat.{add-mul-div_left, mul-div_cancel_left, zero-div, mul_comm, div-add-mod', add-mul}
use Rattle.std.proofs.lemmas.Int.{ints}
use Rattle.std.proofs.lemmas.Nat.{div-mul-add}
use Rattle.slew_clock.specs.Line.{floor_of}

-- a slew forward
forward : (a e n : ℕ) → 0 < n → pos e +ℤ floor_of (pos a *ℤ pos e) n ≡ pos ((a + n) * e / n)
forward a e n h =
    let split : (a + n) * e ≡ a * e + n * e = add-mul a n e in
    let whole : (a * e + n * e) / n ≡ a * e / n + e = add-mul-div_left (a * e) e h in
    let found : (a + n) * e / n ≡ a * e / n + e = ap (λ v. v / n) split ∙ whole in
    ap pos (omega arith)

turn : (n e left q : ℕ) → e ≡ left + suc q → n * e ≡ left * n + q * n + n
turn n e left q h = ap (λ v. n * v) h ∙ omega arith

-- a slew back of k below e whole units
back : (k e t n : ℕ) → 0 < n → n * e ≡ t + k → pos e +ℤ floor_of (neg_ℤ (pos k)) n ≡ pos (t / n)
back zero e t n h same =
    let none : 0 / n ≡ 0 = zero-div n in
    let whole : t / n ≡ e = ap (λ v. v / n) (omega arith) ∙ mul-div_cancel_left e h in
    ap pos (omega arith)
back (suc j) e t n h same =
    let below : j / n < e = (div-lt_iff_lt-mul h).1 (omega (arith, mul_comm n e)) in
    let left : ℕ = e - suc (j / n) in
    let rest : j % n < n = mod-lt j h in
    let parts : j / n * n + j % n ≡ j = div-add-mod' j n in
    let turned : n * e ≡ left * n + j / n * n + n = turn n e left (j / n) (omega arith) in
    let found : t / n ≡ left = ap (λ v. v / n) (omega arith) ∙ div-mul-add left n (n - 1 - j % n) (omega arith) in
    omega (arith, ints)

-- the advance over e units at a slew of x over n, where y is n + x
pub slewed : (x : ℤ) (y e n : ℕ) → 0 < n → x +ℤ pos n ≡ pos y → pos e +ℤ floor_of (x *ℤ pos e) n ≡ pos (y * e / n)
slewed (pos a) y e n h is =
    let same : a + n ≡ y = omega (arith, ints) in
    forward a e n h ∙ ap (λ v. pos (v * e / n)) same
slewed (negsuc a) y e n h is =
    let same : n ≡ y + suc a = omega (arith, ints) in
    back (suc a * e) e (y * e) n h (ap (λ v. v * e) same ∙ add-mul y (suc a) e)
