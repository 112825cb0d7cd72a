use Rattle.std.proofs.Common.{◌≡◌, pos, ◌+ℤ◌, ◌-◌, arith, to_z, of_z}
use Rattle.std.proofs.lemmas.Int.{ints}
use Rattle.std.specs.Int.{w64, w128}
use Rattle.slew_clock.specs.Elapsed.{least, most}
use Rattle.slew_clock.proofs.ElapsedLaws.{least_within, most_from, drift_within}
use Rattle.slew_clock.proofs.change.carried.Goals as goal
use Rattle.slew_clock.proofs.change.carried.Goals.{After-most}

-- both ends fit
ends : (c : After-most) → (to_z w64 (of_z w64 (to_z w128 (of_z w128 (to_z w128 (of_z w128 c.from.result) +ℤ to_z w128 (of_z w128 c.least.result))))) ≡ c.args.i.lo +ℤ pos (least c.args.r.now (c.args.now - c.args.got)))
    × (to_z w64 (of_z w64 (to_z w128 (of_z w128 (to_z w128 (of_z w128 c.from-2.result) +ℤ to_z w128 (of_z w128 c.most.result))))) ≡ c.args.i.hi +ℤ pos (most c.args.r.now (c.args.now - c.args.asked)))
ends c =
    let r = c.args.r.now in
    let low = least_within r (c.args.now - c.args.got) in
    let drift = drift_within r (c.args.now - c.args.asked) in
    let resolution = r.resolution_in_range in
    (omega (arith, ints, c.from.ensures, c.least.ensures, low, c.args.i.ordered), omega (arith, ints, c.from-2.ensures, c.most.ensures, drift, resolution, c.args.i.ordered))

pub invariant_of-result : goal.invariant_of-result
invariant_of-result c =
    let e = ends c in
    let low = least_within c.args.r.now (c.args.now - c.args.got) in
    let high = most_from c.args.r.now (c.args.now - c.args.asked) in
    record { ordered = omega (arith, ints, e.0, e.1, low, high, c.args.i.ordered) }

pub returns : goal.returns
returns c = let e = ends (goal.at.returns c).After-most in rw (e.0, e.1)
