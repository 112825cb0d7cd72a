use Rattle.std.proofs.Common.{rules, arith, FitsSigned, ◌+ℤ◌, ◌-ℤ◌, ◌≤ℤ◌, nat_abs}
use Rattle.std.proofs.lemmas.Int.{ints, to_z-of_z}
use mir.Syntax.{w128}
use Rattle.utc_routines.specs.Interval.{IsHalf}
use Rattle.utc_routines.proofs.TightestLemmas.{reach_of}
use Rattle.utc_routines.proofs.intervals.tightest.Goals as goal

pub returns-clause-inaccuracy : goal.returns-clause-inaccuracy
returns-clause-inaccuracy c =
    let low_fits : FitsSigned w128 c.args.low = c.ranges.low in
    let high_fits : FitsSigned w128 c.args.high = c.ranges.high in
    let time_fits : FitsSigned w128 c.half-time.result = search rules in
    let sum_fits : FitsSigned w128 (c.args.low +ℤ c.args.high) = omega (arith, ints) in
    let half : IsHalf (c.args.low +ℤ c.args.high) c.half-time.result = simp to_z-of_z at c.half-time.ensures in
    let above : c.half-time.result ≤ℤ c.args.high = omega (arith, ints, half.low) in
    let gap_fits : FitsSigned w128 (c.args.high -ℤ c.half-time.result) = omega (arith, ints, half.low, half.high) in
    (nat_abs (c.args.high -ℤ c.half-time.result), simp to_z-of_z (reach_of c.half-time.result c.args.high above), simp to_z-of_z at c.stated.ensures.value)
