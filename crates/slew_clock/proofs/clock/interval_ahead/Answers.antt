use Rattle.std.proofs.Common.{◌≡◌, ◌-◌, pos, ◌+ℤ◌, refl, sym, ◌∙◌, arith, to_z, of_z, SFits, rules}
use Rattle.std.proofs.lemmas.Int.{ints}
use Rattle.std.specs.Int.{w64, w128}
use Rattle.slew_clock.specs.Elapsed.{most, least}
use Rattle.slew_clock.proofs.ElapsedLaws.{least_within, drift_within}
use Rattle.slew_clock.proofs.ReadingLaws.{interval-none, interval-some}
use Rattle.slew_clock.proofs.clock.interval_ahead.Goals as goal

pub returns-in_err-anchor-clause-interval : goal.returns-in_err-anchor-clause-interval
returns-in_err-anchor-clause-interval c =
    c.from_residual.ensures ∙ sym (interval-none c.args.r.now c.args.rec.now c.args.osc c.in_err-anchor.was)

pub returns-clause-interval : goal.returns-clause-interval
returns-clause-interval c =
    let r = c.args.r.now in
    let a = c.in_ok-anchor.anchor in
    let lo_fits : SFits w64 a.lo = search rules in
    let hi_fits : SFits w64 a.hi = search rules in
    let low = least_within r (c.args.osc - a.osc) in
    let drift = drift_within r (c.args.osc - a.osc) in
    let resolution = r.resolution_in_range in
    let lo : to_z w128 (of_z w128 (to_z w128 (of_z w128 c.from.result) +ℤ to_z w128 (of_z w128 c.least.result))) ≡ a.lo +ℤ pos (least r (c.args.osc - a.osc)) =
    omega (arith, ints, c.from.ensures, c.least.ensures) in
    let hi : to_z w128 (of_z w128 (to_z w128 (of_z w128 c.from-2.result) +ℤ to_z w128 (of_z w128 c.most.result))) ≡ a.hi +ℤ pos (most r (c.args.osc - a.osc)) =
    omega (arith, ints, c.from-2.ensures, c.most.ensures) in
    rw (interval-some r c.args.rec.now c.args.osc a c.in_ok-anchor.was, lo, hi) refl
