use Rattle.std.proofs.Common.{◌≡◌, pos, ◌-ℤ◌, ◌≤ℤ◌, ◌^◌, refl, sym, ◌∙◌, arith, to_z, of_z}
use Rattle.std.proofs.lemmas.Int.{ints, clamps}
use Rattle.std.specs.Int.{w128}
use Rattle.slew_clock.specs.Record.{greatest_slew}
use Rattle.slew_clock.specs.Change.{middle_of, held_to}
use Rattle.slew_clock.proofs.Fits.{fits_between}
use Rattle.slew_clock.proofs.ReadingLaws.{interval_within}
use Rattle.slew_clock.proofs.ChangeLaws.{middle_within, held_within, slew_to_middle-some}
use Rattle.slew_clock.proofs.change.slew_to_middle.Goals as goal
use Rattle.slew_clock.proofs.change.slew_to_middle.Goals.{After-from-greatest, After-middle}

ends : (c : After-from-greatest) → (pos 0 ≤ℤ c.in-Some.lo) × (c.in-Some.lo ≤ℤ c.in-Some.hi) × (c.in-Some.hi ≤ℤ pos (2 ^ 63))
ends c = interval_within c.args.r.now c.args.rec.now c.args.osc (c.in-Some.lo, c.in-Some.hi) c.requires.sound c.requires.born c.requires.osc (sym c.in-Some.ensures.interval)

pub middle-requires-clause-lo : goal.middle-requires-clause-lo
middle-requires-clause-lo c = (omega (arith, ints, ends c), omega (arith, ints, ends c))

pub middle-requires-clause-hi : goal.middle-requires-clause-hi
middle-requires-clause-hi c = (omega (arith, ints, ends c), omega (arith, ints, ends c))

-- the middle is within the interval
middle_is : (c : After-middle) → (c.middle.result ≡ middle_of (c.in-Some.lo, c.in-Some.hi)) × (pos 0 ≤ℤ c.middle.result) × (c.middle.result ≤ℤ pos (2 ^ 63))
middle_is c =
    let e = interval_within c.args.r.now c.args.rec.now c.args.osc (c.in-Some.lo, c.in-Some.hi) c.requires.sound c.requires.born c.requires.osc (sym c.in-Some.ensures.interval) in
    let lo : to_z w128 (of_z w128 c.in-Some.lo) ≡ c.in-Some.lo = omega (arith, ints, e) in
    let hi : to_z w128 (of_z w128 c.in-Some.hi) ≡ c.in-Some.hi = omega (arith, ints, e) in
    let is : c.middle.result ≡ middle_of (c.in-Some.lo, c.in-Some.hi) = c.middle.ensures ∙ rw (lo, hi) refl in
    let within = middle_within (c.in-Some.lo, c.in-Some.hi) e.1 in
    (is, omega (arith, ints, is, within, e), omega (arith, ints, is, within, e))

pub overflow_sub-middle : goal.overflow_sub-middle
overflow_sub-middle c =
    let m = middle_is c in
    fits_between _ (omega (arith, ints, m.1, m.2, c.requires.value)) (omega (arith, ints, m.1, m.2, c.requires.value))

pub returns-in-Some : goal.returns-in-Some
returns-in-Some c =
    let r = c.args.r.now in
    let m = middle_is (goal.at.returns-in-Some c).After-middle in
    let some = slew_to_middle-some r c.args.rec.now c.args.osc c.args.value (c.in-Some.lo, c.in-Some.hi) (sym c.in-Some.ensures.interval) in
    let within = held_within (greatest_slew r) (middle_of (c.in-Some.lo, c.in-Some.hi) -ℤ c.args.value) in
    let held : c.clamp.result ≡ held_to (greatest_slew r) (middle_of (c.in-Some.lo, c.in-Some.hi) -ℤ c.args.value) =
    omega (arith, ints, clamps, m.0, m.1, m.2, c.requires.value, c.clamp.ensures.value, c.from-greatest.ensures, c.greatest_slew.ensures.slew, c.greatest_slew.ensures.within, r.lease_to) in
    omega (arith, ints, some, held, within, c.greatest_slew.ensures.slew, c.greatest_slew.ensures.within, r.lease_to)
