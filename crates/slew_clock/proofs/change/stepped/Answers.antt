use Rattle.std.proofs.Common.{◌≡◌, refl, sym, ◌∙◌, subst, arith, to_z, of_z}
use Rattle.std.proofs.lemmas.Int.{ints}
use Rattle.std.specs.Int.{w64, w128}
use Rattle.slew_clock.specs.Record.{IsSound}
use Rattle.slew_clock.specs.Change.{middle_of}
use Rattle.slew_clock.specs.Clock.IsNext.{stepped}
use Rattle.slew_clock.proofs.ChangeLaws.{middle_within, stepped_sound}
use Rattle.slew_clock.proofs.change.stepped.Goals as goal
use Rattle.slew_clock.proofs.change.stepped.Goals.{After-middle-value}

-- the middle of the interval fits
value : (c : After-middle-value) → (c.middle-value.result ≡ middle_of (c.args.i.lo, c.args.i.hi)) × (to_z w64 (of_z w64 (to_z w128 (of_z w128 c.middle-value.result))) ≡ middle_of (c.args.i.lo, c.args.i.hi))
value c =
    let range = c.in_ok-anchor.ensures.range in
    let lo : to_z w128 (of_z w128 c.from.result) ≡ c.args.i.lo = omega (arith, ints, range, c.args.i.ordered) in
    let hi : to_z w128 (of_z w128 c.from-2.result) ≡ c.args.i.hi = omega (arith, ints, range, c.args.i.ordered) in
    let is : c.middle-value.result ≡ middle_of (c.args.i.lo, c.args.i.hi) = c.middle-value.ensures ∙ rw (lo, hi) refl in
    let within = middle_within (c.args.i.lo, c.args.i.hi) c.args.i.ordered in
    (is, omega (arith, ints, is, within, range))

pub overflow_cast-value : goal.overflow_cast-value
overflow_cast-value c =
    let within = middle_within (c.args.i.lo, c.args.i.hi) c.args.i.ordered in
    record { sfits = omega (arith, ints, (value c).0, within, c.in_ok-anchor.ensures.range) }

pub returns-clause-stepped : goal.returns-clause-stepped
returns-clause-stepped c = rw (c.in_ok-anchor.ensures.anchor, (value c).1)

pub returns-clause-next : goal.returns-clause-next
returns-clause-next c = stepped c.args.osc (c.args.i.lo, c.args.i.hi) c.requires.born (returns-clause-stepped c)

pub returns-clause-sound : goal.returns-clause-sound
returns-clause-sound c =
    subst (IsSound c.args.r.now) (sym (returns-clause-stepped c))
    (stepped_sound c.args.r.now c.args.rec.now c.args.osc (c.args.i.lo, c.args.i.hi) c.requires.sound c.requires.osc c.in_ok-anchor.ensures.range c.args.i.ordered)
