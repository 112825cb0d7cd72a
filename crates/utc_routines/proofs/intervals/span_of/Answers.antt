use Rattle.std.proofs.Common.{rules, ◌≡◌, FitsSigned}
use Rattle.std.proofs.lemmas.Int.{to_z-of_z}
use Rattle.std.specs.Int.{int_min, int_max}
use mir.Syntax.{w128}
use Rattle.utc_routines.proofs.TightestLemmas.{span_of_ends, span_fits, small_min, small_max}
use Rattle.utc_routines.proofs.intervals.span_of.Goals as goal

pub tightest-requires-clause-low_small : goal.tightest-requires-clause-low_small
tightest-requires-clause-low_small c =
    let first_fits : FitsSigned w128 c.in-Some.ends.first.low = search rules in
    let second_fits : FitsSigned w128 c.in-Some.ends.second.low = search rules in
    let fits : FitsSigned w128 c.min.result = search rules in
    let low : c.min.result ≡ int_min c.in-Some.ends.first.low c.in-Some.ends.second.low = simp to_z-of_z at c.min.ensures.value in
    simp to_z-of_z (rw low (small_min _ _ c.in-Some.ensures.small.0 c.in-Some.ensures.small.2))

pub tightest-requires-clause-high_small : goal.tightest-requires-clause-high_small
tightest-requires-clause-high_small c =
    let first_fits : FitsSigned w128 c.in-Some.ends.first.high = search rules in
    let second_fits : FitsSigned w128 c.in-Some.ends.second.high = search rules in
    let fits : FitsSigned w128 c.max.result = search rules in
    let high : c.max.result ≡ int_max c.in-Some.ends.first.high c.in-Some.ends.second.high = simp to_z-of_z at c.max.ensures.value in
    simp to_z-of_z (rw high (small_max _ _ c.in-Some.ensures.small.1 c.in-Some.ensures.small.3))

pub returns-clause-interval : goal.returns-clause-interval
returns-clause-interval c =
    let first_low : FitsSigned w128 c.in-Some.ends.first.low = search rules in
    let second_low : FitsSigned w128 c.in-Some.ends.second.low = search rules in
    let first_high : FitsSigned w128 c.in-Some.ends.first.high = search rules in
    let second_high : FitsSigned w128 c.in-Some.ends.second.high = search rules in
    let low_fits : FitsSigned w128 c.min.result = search rules in
    let high_fits : FitsSigned w128 c.max.result = search rules in
    let low : c.min.result ≡ int_min c.in-Some.ends.first.low c.in-Some.ends.second.low = simp to_z-of_z at c.min.ensures.value in
    let high : c.max.result ≡ int_max c.in-Some.ends.first.high c.in-Some.ends.second.high = simp to_z-of_z at c.max.ensures.value in
    let found = simp to_z-of_z at c.tightest.ensures in
    span_of_ends c.args.a c.args.b _ _ _ _ _ found.inaccuracy.0 _ c.in-Some.ensures.value.0 c.in-Some.ensures.value.1
    (rw (low, high) at found.time) (rw high at found.inaccuracy.1) found.inaccuracy.2

pub returns-clause-time_fits : goal.returns-clause-time_fits
returns-clause-time_fits c =
    let first_low : FitsSigned w128 c.in-Some.ends.first.low = search rules in
    let second_low : FitsSigned w128 c.in-Some.ends.second.low = search rules in
    let first_high : FitsSigned w128 c.in-Some.ends.first.high = search rules in
    let second_high : FitsSigned w128 c.in-Some.ends.second.high = search rules in
    let low_fits : FitsSigned w128 c.min.result = search rules in
    let high_fits : FitsSigned w128 c.max.result = search rules in
    let low : c.min.result ≡ int_min c.in-Some.ends.first.low c.in-Some.ends.second.low = simp to_z-of_z at c.min.ensures.value in
    let high : c.max.result ≡ int_max c.in-Some.ends.first.high c.in-Some.ends.second.high = simp to_z-of_z at c.max.ensures.value in
    let found = simp to_z-of_z at c.tightest.ensures in
    span_fits c.args.a c.args.b _ _ _ _ _ c.in-Some.ensures.value.0 c.in-Some.ensures.value.1 (rw (low, high) at found.time)
    c.in-Some.ensures.in_range.0.time_fits c.in-Some.ensures.in_range.1.time_fits
