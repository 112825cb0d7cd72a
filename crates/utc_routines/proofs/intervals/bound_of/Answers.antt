use Rattle.std.proofs.Common.{rules, arith, FitsSigned, ◌<ℤ◌, ◌≤ℤ◌}
use Rattle.std.proofs.lemmas.Int.{ints, to_z-of_z}
use mir.Syntax.{w128}
use Rattle.utc_routines.proofs.TightestLemmas.{out_of_order, in_order, unspecified_in_order, bound_of_ends}
use Rattle.utc_routines.proofs.intervals.bound_of.Goals as goal

pub returns-in_default-clause-order : goal.returns-in_default-clause-order
returns-in_default-clause-order c = unspecified_in_order c.args.a c.args.b c.in_default.ensures.value

pub returns-then-ends-clause-order : goal.returns-then-ends-clause-order
returns-then-ends-clause-order c =
    let low_fits : FitsSigned w128 c.in-Some.ends.first.low = search rules in
    let high_fits : FitsSigned w128 c.in-Some.ends.second.high = search rules in
    let after : c.in-Some.ends.second.high <ℤ c.in-Some.ends.first.low = omega (arith, ints, c.if-ends.true) in
    out_of_order c.args.a c.args.b _ _ _ _ c.in-Some.ensures.value.0 c.in-Some.ensures.value.1 after

pub returns-clause-order : goal.returns-clause-order
returns-clause-order c =
    let low_fits : FitsSigned w128 c.in-Some.ends.first.low = search rules in
    let high_fits : FitsSigned w128 c.in-Some.ends.second.high = search rules in
    let order : c.in-Some.ends.first.low ≤ℤ c.in-Some.ends.second.high = omega (arith, ints, c.if-ends.false) in
    in_order c.args.a c.args.b _ _ _ _ c.in-Some.ensures.value.0 c.in-Some.ensures.value.1 order

pub returns-clause-interval : goal.returns-clause-interval
returns-clause-interval c =
    let low_fits : FitsSigned w128 c.in-Some.ends.first.low = search rules in
    let high_fits : FitsSigned w128 c.in-Some.ends.second.high = search rules in
    let order : c.in-Some.ends.first.low ≤ℤ c.in-Some.ends.second.high = omega (arith, ints, c.if-ends.false) in
    let found = simp to_z-of_z at c.tightest.ensures in
    bound_of_ends c.args.a c.args.b _ _ _ _ _ found.inaccuracy.0 _ c.in-Some.ensures.value.0 c.in-Some.ensures.value.1 order
    found.time found.inaccuracy.1 found.inaccuracy.2
