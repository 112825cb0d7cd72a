use Rattle.std.proofs.Common.{◌≡◌, ap, ◌∙◌, arith}
use Rattle.std.proofs.lemmas.Int.{ints, to_z-of_z}
use Rattle.std.specs.Int.{w64}
use Rattle.slew_clock.specs.Line.{advance}
use Rattle.slew_clock.proofs.LineLaws.{advance_from, advance_to}
use Rattle.slew_clock.proofs.clock.advance_by.Goals as goal
use Rattle.slew_clock.proofs.clock.advance_by.Goals.{After-usual_advance, After-wide_advance}

pub returns-then-r-eq-USUAL_LEASE-clause-to : goal.returns-then-r-eq-USUAL_LEASE-clause-to
returns-then-r-eq-USUAL_LEASE-clause-to c =
    let is = c.usual_advance.ensures ∙ ap (λ x. advance c.args.r.now x c.args.elapsed) (to_z-of_z w64 c.args.x c.ranges.x) in
    omega (arith, ints, is, c.from.ensures, advance_to c.args.r.now c.args.x c.args.elapsed c.requires.slew)

wide_is : (c : After-wide_advance) → c.wide_advance.result ≡ advance c.args.r.now c.args.x c.args.elapsed
wide_is c = c.wide_advance.ensures ∙ ap (λ x. advance c.args.r.now x c.args.elapsed) (to_z-of_z w64 c.args.x c.ranges.x)

pub returns-else-r-eq-USUAL_LEASE-clause-from : goal.returns-else-r-eq-USUAL_LEASE-clause-from
returns-else-r-eq-USUAL_LEASE-clause-from c =
    let is = wide_is (goal.at.returns-else-r-eq-USUAL_LEASE-clause-from c).After-wide_advance in
    let from = advance_from c.args.r.now c.args.x c.args.elapsed c.requires.slew in
    let to = advance_to c.args.r.now c.args.x c.args.elapsed c.requires.slew in
    omega (arith, ints, is, from, to)

pub returns-else-r-eq-USUAL_LEASE-clause-to : goal.returns-else-r-eq-USUAL_LEASE-clause-to
returns-else-r-eq-USUAL_LEASE-clause-to c =
    let is = wide_is (goal.at.returns-else-r-eq-USUAL_LEASE-clause-to c).After-wide_advance in
    let from = advance_from c.args.r.now c.args.x c.args.elapsed c.requires.slew in
    let to = advance_to c.args.r.now c.args.x c.args.elapsed c.requires.slew in
    omega (arith, ints, is, from, to)
