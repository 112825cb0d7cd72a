-- Laws of the line: where it stands, and that it never falls.
use Rattle.std.proofs.Common.{◌≡◌, ℕ, ◌+◌, ◌-◌, ◌*◌, ◌/◌, ◌^◌, ◌<◌, ◌≤◌, min, ℤ, pos, negsuc, ◌+ℤ◌, ◌≤ℤ◌, refl, ap, ◌∙◌, inl, inr, arith, nat_le, if◌then◌else◌, le-ltb, le-leb}
use Rattle.std.proofs.Math.Nat.{mul-div_cancel, div-le_of_le-mul, mul-le-mul_left, mul-le-mul_right, div-mul-le_self, le_trans, zero-div, mul-zero}
use Rattle.std.proofs.lemmas.Int.{ints}
use Rattle.std.proofs.lemmas.Nat.{le-div}
use Rattle.std.proofs.lemmas.Bool.{cases_lt, lt-leb}
use Rattle.slew_clock.specs.declared.rates.Rates.{Rates}
use Rattle.slew_clock.specs.declared.record.ClockRecord.{ClockRecord}
use Rattle.slew_clock.specs.Record.{end_of, greatest_slew, IsSlew, IsSound}
use Rattle.slew_clock.specs.Line.{advance, first_part, second_part, line}
use Rattle.slew_clock.proofs.Slewing.{slewed}

-- the greatest slew is at most a whole lease
pub slew_within : (r : Rates) → greatest_slew r ≤ r.lease
slew_within r =
    div-le_of_le-mul 1000000 (omega (arith, mul-le-mul_left r.lease r.slew_to))

-- with an allowed slew the advance over e units is y * e / lease for some y up to twice the lease
pub advance_is : (r : Rates) (x : ℤ) → IsSlew r x → (y : ℕ) × (y ≤ 2 * r.lease) × ((e : ℕ) → advance r x e ≡ pos (y * e / r.lease))
advance_is r (pos a) s =
    let small : a ≤ r.lease = omega (arith, ints, slew_within r, s.1) in
    (a + r.lease, omega arith, λ e. slewed (pos a) (a + r.lease) e r.lease (omega (arith, r.lease_from)) refl)
advance_is r (negsuc a) s =
    let small : a + 1 ≤ r.lease = omega (arith, ints, slew_within r, s.0) in
    (r.lease - (a + 1), omega arith, λ e. slewed (negsuc a) (r.lease - (a + 1)) e r.lease (omega (arith, r.lease_from)) (omega (arith, ints)))

pub quotient_rises : (a b n : ℕ) → 0 < n → a ≤ b → a / n ≤ b / n
quotient_rises a b n p h = le-div (a / n) b n p (le_trans (div-mul-le_self a n) h)

-- the longer the oscillator goes on, the farther the clock goes
pub advance_rises : (r : Rates) (x : ℤ) (e f : ℕ) → IsSlew r x → e ≤ f → advance r x e ≤ℤ advance r x f
advance_rises r x e f s h =
    let is = advance_is r x s in
    let more : is.0 * e / r.lease ≤ is.0 * f / r.lease = quotient_rises (is.0 * e) (is.0 * f) r.lease (omega (arith, r.lease_from)) (mul-le-mul_left is.0 h) in
    omega (arith, ints, is.2 e, is.2 f)

-- over e units it goes on by 0 to 2 e
pub advance_from : (r : Rates) (x : ℤ) (e : ℕ) → IsSlew r x → pos 0 ≤ℤ advance r x e
advance_from r x e s =
    let is = advance_is r x s in
    omega (arith, ints, is.2 e)

pub advance_to : (r : Rates) (x : ℤ) (e : ℕ) → IsSlew r x → advance r x e ≤ℤ pos (2 * e)
advance_to r x e s =
    let is = advance_is r x s in
    let low : is.0 * e / r.lease ≤ 2 * e = div-le_of_le-mul r.lease (omega (arith, mul-le-mul_right e is.1)) in
    omega (arith, ints, is.2 e)

-- over no unit it doesn't move
pub advance-zero : (r : Rates) (x : ℤ) → IsSlew r x → advance r x 0 ≡ pos 0
advance-zero r x s =
    let is = advance_is r x s in
    is.2 0 ∙ ap (λ v. pos (v / r.lease)) (mul-zero is.0) ∙ ap pos (zero-div r.lease)

-- before the second part the line is the first one
pub line_first : (r : Rates) (rec : ClockRecord) (o : ℕ) → o < rec.b.from → line r rec o ≡ first_part r rec o
unfolding line
line_first r rec o h = grind arith

-- the value at the lesser of two numbers
at_least : (f : ℕ → ℤ) (o e : ℕ) → (if nat_le o e then f o else f e) ≡ f (min o e)
at_least f o e = elim (cases_lt e o) [
  | inl h ↦ let low : min o e ≡ e = omega arith in rw (lt-leb o e h, low)
  | inr h ↦ let low : min o e ≡ o = omega arith in rw (le-leb o e h, low)
]

-- from there on it is the second one, which stands from the end on
pub line_second : (r : Rates) (rec : ClockRecord) (o : ℕ) → rec.b.from ≤ o → line r rec o ≡ second_part r rec (min o (end_of r rec))
unfolding line
line_second r rec o h = rw (le-ltb o rec.b.from h) (at_least (second_part r rec) o (end_of r rec))

-- the parts of a sound record meet where the second one begins
pub parts_meet : (r : Rates) (rec : ClockRecord) → IsSound r rec → rec.a.from ≤ rec.b.from
parts_meet r rec s = elim s.parts [ inl h ↦ omega arith | inr h ↦ omega arith ]

first_rises : (r : Rates) (rec : ClockRecord) (o p : ℕ) → IsSound r rec → o ≤ p → first_part r rec o ≤ℤ first_part r rec p
first_rises r rec o p s h =
    let rises = advance_rises r rec.a.x (o - rec.a.from) (p - rec.a.from) s.a_slew (omega arith) in
    omega (arith, ints, rises)

second_rises : (r : Rates) (rec : ClockRecord) (o p : ℕ) → IsSound r rec → o ≤ p → second_part r rec o ≤ℤ second_part r rec p
second_rises r rec o p s h =
    let rises = advance_rises r rec.b.x (o - rec.b.from) (p - rec.b.from) s.b_slew (omega arith) in
    omega (arith, ints, rises)

-- the first part up to its end is below all of the second one
first_below : (r : Rates) (rec : ClockRecord) (o p : ℕ) → IsSound r rec → o ≤ rec.b.from → first_part r rec o ≤ℤ second_part r rec p
first_below r rec o p s h =
    let rises = first_rises r rec o rec.b.from s h in
    let on = advance_from r rec.b.x (p - rec.b.from) s.b_slew in
    omega (arith, ints, rises, on)

-- the line of a sound record never falls
pub line_never_falls : (r : Rates) (rec : ClockRecord) (o p : ℕ) → IsSound r rec → o ≤ p → line r rec o ≤ℤ line r rec p
line_never_falls r rec o p s h = elim (cases_lt o rec.b.from) [
  | inr second ↦ rw (line_second r rec o second, line_second r rec p (omega arith))
      (second_rises r rec (min o (end_of r rec)) (min p (end_of r rec)) s (omega arith))
  | inl first ↦ elim (cases_lt p rec.b.from) [
    | inl still ↦ rw (line_first r rec o first, line_first r rec p still) (first_rises r rec o p s h)
    | inr later ↦ rw (line_first r rec o first, line_second r rec p later)
        (first_below r rec o (min p (end_of r rec)) s (omega arith))
  ]
]

-- the line of a sound record is at least 0
pub line_from : (r : Rates) (rec : ClockRecord) (o : ℕ) → IsSound r rec → pos 0 ≤ℤ line r rec o
line_from r rec o s =
    let first = advance_from r rec.a.x (o - rec.a.from) s.a_slew in
    let low : pos 0 ≤ℤ first_part r rec o = omega (arith, ints, first, s.value_from) in
    elim (cases_lt o rec.b.from) [
      | inl h ↦ rw (line_first r rec o h) low
      | inr h ↦ rw (line_second r rec o h)
          (let met = advance_from r rec.a.x (rec.b.from - rec.a.from) s.a_slew in
          let on = advance_from r rec.b.x (min o (end_of r rec) - rec.b.from) s.b_slew in
          omega (arith, ints, met, on, s.value_from))
    ]

-- and at most 2^62 + 2 o
pub line_to : (r : Rates) (rec : ClockRecord) (o : ℕ) → IsSound r rec → rec.a.from ≤ o → line r rec o ≤ℤ pos (2 ^ 62 + 2 * o)
line_to r rec o s begun = elim (cases_lt o rec.b.from) [
  | inl h ↦ rw (line_first r rec o h)
      (let on = advance_to r rec.a.x (o - rec.a.from) s.a_slew in omega (arith, ints, on, s.value_to))
  | inr h ↦ rw (line_second r rec o h)
      (let met = advance_to r rec.a.x (rec.b.from - rec.a.from) s.a_slew in
      let on = advance_to r rec.b.x (min o (end_of r rec) - rec.b.from) s.b_slew in
      let meets = parts_meet r rec s in
      omega (arith, ints, met, on, s.value_to))
]

-- the pace of a slew: the lease and the slew, over which the clock goes in a lease
pub pace_is : (r : Rates) (x : ℤ) → IsSlew r x → (y : ℕ) × (y ≤ 2 * r.lease) × (x +ℤ pos r.lease ≡ pos y)
pace_is r (pos a) s =
    let small : a ≤ r.lease = omega (arith, ints, slew_within r, s.1) in
    (a + r.lease, omega arith, refl)
pace_is r (negsuc a) s =
    let small : a + 1 ≤ r.lease = omega (arith, ints, slew_within r, s.0) in
    (r.lease - (a + 1), omega arith, omega (arith, ints))

-- the advance is that at the pace
pub advance_at_pace : (r : Rates) (x : ℤ) (e y : ℕ) → x +ℤ pos r.lease ≡ pos y → advance r x e ≡ pos (y * e / r.lease)
advance_at_pace r x e y is = slewed x y e r.lease (omega (arith, r.lease_from)) is

-- over a whole lease the clock goes on by it and by the slew
pub advance_whole : (r : Rates) (x : ℤ) → IsSlew r x → advance r x r.lease ≡ pos r.lease +ℤ x
advance_whole r x s =
    let pace = pace_is r x s in
    let whole : pace.0 * r.lease / r.lease ≡ pace.0 = mul-div_cancel pace.0 (omega (arith, r.lease_from)) in
    let there = advance_at_pace r x r.lease pace.0 pace.2 in
    omega (arith, ints, there, whole, pace.2)
