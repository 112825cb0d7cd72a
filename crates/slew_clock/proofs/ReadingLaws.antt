-- Laws of readings: what a specified inaccuracy says of true time.
use Rattle.std.proofs.Common.{◌≡◌, ℕ, ◌+◌, ◌-◌, ◌^◌, ◌<◌, ◌≤◌, inl, inr, cond, ℤ, pos, negsuc, ◌+ℤ◌, ◌-ℤ◌, ◌≤ℤ◌, Option, Some, None, IfSome, refl, sym, ap, ◌∙◌, subst, arith, nat_le, leb-true}
use Rattle.std.proofs.lemmas.Int.{ints}
use Rattle.std.proofs.lemmas.Bool.{cases_lt, le-leb}
use Rattle.std.proofs.lemmas.Option.{same_Some, none-some, cond_some}
use Rattle.slew_clock.specs.declared.limits.TheConstants.{GREATEST_INACCURACY, GREATEST_OSC}
use Rattle.slew_clock.specs.declared.rates.TheConstants.{GREATEST_LEASE}
use Rattle.slew_clock.specs.declared.rates.Rates.{Rates}
use Rattle.slew_clock.specs.declared.record.Anchor.{Anchor}
use Rattle.slew_clock.specs.declared.record.ClockRecord.{ClockRecord}
use Rattle.slew_clock.specs.Elapsed.{carried, most, least, MayElapse, IsRight}
use Rattle.slew_clock.specs.Record.{IsSound, IsSoundAnchor}
use Rattle.slew_clock.specs.Line.{line}
use Rattle.slew_clock.specs.Reading.{ends_since, interval_of, or_zero, reach, specified, inaccuracy_of}
use Rattle.slew_clock.proofs.ElapsedLaws.{least_within, most_from, drift_within}

-- a record without an anchor has no interval
pub interval-none : (r : Rates) (rec : ClockRecord) (o : ℕ) → rec.anchor ≡ None → interval_of r rec o ≡ None
unfolding interval_of
interval-none r rec o h = rw h

-- with an anchor the interval is that of the anchor
pub interval-some : (r : Rates) (rec : ClockRecord) (o : ℕ) (a : Anchor) → rec.anchor ≡ Some a → interval_of r rec o ≡ Some (ends_since r a o)
unfolding interval_of
interval-some r rec o a h = rw h

-- a record with an interval has an anchor
pub interval_anchored : (r : Rates) (rec : ClockRecord) (o : ℕ) (i : ℤ × ℤ) → interval_of r rec o ≡ Some i → (a : Anchor) × (rec.anchor ≡ Some a) × (i ≡ ends_since r a o)
unfolding interval_of
interval_anchored r rec o i h = anchored rec.anchor refl h
  where
    anchored : (found : Option Anchor) → rec.anchor ≡ found → interval_of r rec o ≡ Some i → (a : Anchor) × (rec.anchor ≡ Some a) × (i ≡ ends_since r a o)
    anchored None is h = absurd (none-some i (sym (interval-none r rec o is) ∙ h))
    anchored (Some a) is h = (a, is, same_Some i (ends_since r a o) (sym h ∙ interval-some r rec o a is))

-- no interval, no inaccuracy
pub inaccuracy-none : (r : Rates) (rec : ClockRecord) (o : ℕ) → interval_of r rec o ≡ None → inaccuracy_of r rec o ≡ None
unfolding inaccuracy_of
inaccuracy-none r rec o h = rw h

-- with an interval it is the value's reach in it, where that is specified
pub inaccuracy-some : (r : Rates) (rec : ClockRecord) (o : ℕ) (i : ℤ × ℤ) → interval_of r rec o ≡ Some i → inaccuracy_of r rec o ≡ specified (reach (line r rec o) i)
unfolding inaccuracy_of
inaccuracy-some r rec o i h = rw h

-- a specified number is the number, at most 2^48 - 2
pub specified_is : (n i : ℕ) → specified n ≡ Some i → (n ≡ i) × (i ≤ 2 ^ 48 - 2)
specified_is n i h =
    let parts = cond_some (nat_le n (2 ^ 48 - 2)) n i h in
    (parts.1, subst (λ v. v ≤ 2 ^ 48 - 2) parts.1 (leb-true n (2 ^ 48 - 2) parts.0))

-- a specified inaccuracy is the value's reach in the interval that is carried on from an anchor
pub inaccuracy_anchored : (r : Rates) (rec : ClockRecord) (o i : ℕ) → inaccuracy_of r rec o ≡ Some i → (a : Anchor) × (rec.anchor ≡ Some a) × (interval_of r rec o ≡ Some (ends_since r a o)) × (i ≡ reach (line r rec o) (ends_since r a o)) × (i ≤ 2 ^ 48 - 2)
inaccuracy_anchored r rec o i h = anchored rec.anchor refl
  where
    anchored : (found : Option Anchor) → rec.anchor ≡ found → (a : Anchor) × (rec.anchor ≡ Some a) × (interval_of r rec o ≡ Some (ends_since r a o)) × (i ≡ reach (line r rec o) (ends_since r a o)) × (i ≤ 2 ^ 48 - 2)
    anchored None is = absurd (none-some i (sym (inaccuracy-none r rec o (interval-none r rec o is)) ∙ h))
    anchored (Some a) is =
        let on = ends_since r a o in
        let there = interval-some r rec o a is in
        let found = specified_is (reach (line r rec o) on) i (sym (inaccuracy-some r rec o on there) ∙ h) in
        (a, is, there, sym found.0, found.1)

-- a number is at most itself, or 0
or_zero_is : (z : ℤ) → z ≤ℤ pos (or_zero z)
or_zero_is (pos n) = omega (arith, ints)
or_zero_is (negsuc n) = omega (arith, ints)

-- and it is the least such number
or_zero_least : (z : ℤ) (j : ℕ) → z ≤ℤ pos j → or_zero z ≤ j
or_zero_least (pos n) j h = omega (arith, ints, h)
or_zero_least (negsuc n) j h = omega arith

-- a number that is unspecified is above the greatest inaccuracy
unspecified_is : (n : ℕ) → specified n ≡ None → GREATEST_INACCURACY < n
unspecified_is n h = elim (cases_lt GREATEST_INACCURACY n) [
  | inl above ↦ above
  | inr below ↦ absurd (none-some n (sym h ∙ ap (λ b. cond b (Some n) None) (le-leb n GREATEST_INACCURACY below)))
]

-- each point of an interval is within the value's reach
pub reach_contains : (v lo hi t : ℤ) → lo ≤ℤ t → t ≤ℤ hi → ((v -ℤ pos (reach v (lo, hi))) ≤ℤ t) × (t ≤ℤ (v +ℤ pos (reach v (lo, hi))))
reach_contains v lo hi t from to =
    let low = or_zero_is (v -ℤ lo) in
    let high = or_zero_is (hi -ℤ v) in
    (omega (arith, ints, low, high), omega (arith, ints, low, high))

-- where the inaccuracy is specified, each point of the interval is within it of the line
pub reading_contains : (r : Rates) (rec : ClockRecord) (o i : ℕ) (lo hi t : ℤ) → inaccuracy_of r rec o ≡ Some i → interval_of r rec o ≡ Some (lo, hi) → lo ≤ℤ t → t ≤ℤ hi → ((line r rec o -ℤ pos i) ≤ℤ t) × (t ≤ℤ (line r rec o +ℤ pos i))
reading_contains r rec o i lo hi t h there from to =
    let is = (specified_is (reach (line r rec o) (lo, hi)) i (sym (inaccuracy-some r rec o (lo, hi) there) ∙ h)).0 in
    subst (λ n. ((line r rec o -ℤ pos n) ≤ℤ t) × (t ≤ℤ (line r rec o +ℤ pos n))) is (reach_contains (line r rec o) lo hi t from to)

-- the interval of a sound record has its ends in order, from 0 to 2^63, also a lease ahead
pub interval_within : (r : Rates) (rec : ClockRecord) (o : ℕ) (i : ℤ × ℤ) → IsSound r rec → rec.born ≤ o → o ≤ GREATEST_OSC + GREATEST_LEASE → interval_of r rec o ≡ Some i → (pos 0 ≤ℤ i.0) × (i.0 ≤ℤ i.1) × (i.1 ≤ℤ pos (2 ^ 63))
interval_within r rec o i s born small h =
    let found = interval_anchored r rec o i h in
    let a = found.0 in
    let good : IsSoundAnchor rec.born a = subst (λ v. IfSome v (IsSoundAnchor rec.born)) found.1 s.anchor in
    let low = least_within r (o - a.osc) in
    let high = most_from r (o - a.osc) in
    let drift = drift_within r (o - a.osc) in
    let lo : i.0 ≡ a.lo +ℤ pos (least r (o - a.osc)) = ap (λ p. p.0) found.2 in
    let hi : i.1 ≡ a.hi +ℤ pos (most r (o - a.osc)) = ap (λ p. p.1) found.2 in
    let resolution = r.resolution_in_range in
    (omega (arith, ints, lo, good.from), omega (arith, ints, lo, hi, good.ordered, low, high), omega (arith, ints, hi, good.to, good.before, drift, resolution))

-- an answer that was right holds true time when it is carried on, where what passed since its asking and since its coming may elapse
pub carried_contains : (r : Rates) (lo hi : ℤ) (asked got now : ℕ) (at_asking at_coming t : ℤ) → IsRight lo hi at_asking at_coming → MayElapse r (now - asked) (t -ℤ at_asking) → MayElapse r (now - got) (t -ℤ at_coming) → ((carried r lo hi asked got now).0 ≤ℤ t) × (t ≤ℤ (carried r lo hi asked got now).1)
carried_contains r lo hi asked got now at_asking at_coming t right since_asking since_coming =
    (omega (arith, ints, right.0, since_coming.0), omega (arith, ints, right.1, since_asking.1))

-- where the anchor held true time, and what passed since may elapse, the reading's inaccuracy holds
pub reading_holds : (r : Rates) (rec : ClockRecord) (o i : ℕ) (a : Anchor) (then t : ℤ) → rec.anchor ≡ Some a → inaccuracy_of r rec o ≡ Some i → a.lo ≤ℤ then → then ≤ℤ a.hi → MayElapse r (o - a.osc) (t -ℤ then) → ((line r rec o -ℤ pos i) ≤ℤ t) × (t ≤ℤ (line r rec o +ℤ pos i))
reading_holds r rec o i a then t is specified_so from to elapsed =
    reading_contains r rec o i (a.lo +ℤ pos (least r (o - a.osc))) (a.hi +ℤ pos (most r (o - a.osc))) t specified_so (interval-some r rec o a is) (omega (arith, ints, from, elapsed.0)) (omega (arith, ints, to, elapsed.1))

-- a number that holds both ends of an interval is at least the value's reach in it
reach_least : (v lo hi : ℤ) (j : ℕ) → (v -ℤ pos j) ≤ℤ lo → hi ≤ℤ (v +ℤ pos j) → reach v (lo, hi) ≤ j
reach_least v lo hi j from to =
    let low = or_zero_least (v -ℤ lo) j (omega (arith, ints, from)) in
    let high = or_zero_least (hi -ℤ v) j (omega (arith, ints, to)) in
    omega (arith, low, high)

-- where the inaccuracy is specified, none that is less holds both ends of the interval
pub reading_tightest : (r : Rates) (rec : ClockRecord) (o i j : ℕ) (lo hi : ℤ) → inaccuracy_of r rec o ≡ Some i → interval_of r rec o ≡ Some (lo, hi) → (line r rec o -ℤ pos j) ≤ℤ lo → hi ≤ℤ (line r rec o +ℤ pos j) → i ≤ j
reading_tightest r rec o i j lo hi h there from to =
    let is = (specified_is (reach (line r rec o) (lo, hi)) i (sym (inaccuracy-some r rec o (lo, hi) there) ∙ h)).0 in
    omega (arith, is, reach_least (line r rec o) lo hi j from to)

-- where it is unspecified though there is an interval, none up to the greatest one holds both ends
pub reading_unspecified : (r : Rates) (rec : ClockRecord) (o j : ℕ) (lo hi : ℤ) → inaccuracy_of r rec o ≡ None → interval_of r rec o ≡ Some (lo, hi) → (line r rec o -ℤ pos j) ≤ℤ lo → hi ≤ℤ (line r rec o +ℤ pos j) → GREATEST_INACCURACY < j
reading_unspecified r rec o j lo hi h there from to =
    let above = unspecified_is (reach (line r rec o) (lo, hi)) (sym (inaccuracy-some r rec o (lo, hi) there) ∙ h) in
    omega (arith, above, reach_least (line r rec o) lo hi j from to)
