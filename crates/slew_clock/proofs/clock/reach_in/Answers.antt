use Rattle.std.proofs.Common.{◌≡◌, ℤ, pos, negsuc, ◌-ℤ◌, refl, ◌∙◌, arith, to_z, of_z, max}
use Rattle.std.proofs.lemmas.Int.{ints, clamps}
use Rattle.std.specs.Int.{w128, int_max}
use Rattle.slew_clock.specs.Reading.{or_zero}
use Rattle.slew_clock.proofs.clock.reach_in.Goals as goal

-- the greatest of two numbers and 0
greatest : (a b : ℤ) → int_max (int_max a b) (pos 0) ≡ pos (max (or_zero a) (or_zero b))
greatest (pos a) (pos b) = omega (arith, ints, clamps)
greatest (pos a) (negsuc b) = omega (arith, ints, clamps)
greatest (negsuc a) (pos b) = omega (arith, ints, clamps)
greatest (negsuc a) (negsuc b) = omega (arith, ints, clamps)

pub returns : goal.returns
returns c =
    let below : to_z w128 (of_z w128 (to_z w128 (of_z w128 c.args.value) -ℤ to_z w128 (of_z w128 c.args.lo))) ≡ c.args.value -ℤ c.args.lo =
    omega (arith, ints) in
    let over : to_z w128 (of_z w128 (to_z w128 (of_z w128 c.args.hi) -ℤ to_z w128 (of_z w128 c.args.value))) ≡ c.args.hi -ℤ c.args.value =
    omega (arith, ints) in
    let larger : c.max.result ≡ int_max (c.args.value -ℤ c.args.lo) (c.args.hi -ℤ c.args.value) =
    c.max.ensures.value ∙ rw (below, over) refl in
    let kept : to_z w128 (of_z w128 c.max.result) ≡ c.max.result = omega (arith, ints) in
    let whole : to_z w128 (of_z w128 c.max-2.result) ≡ c.max-2.result = omega (arith, ints) in
    whole ∙ c.max-2.ensures.value ∙ rw (kept, larger) (greatest (c.args.value -ℤ c.args.lo) (c.args.hi -ℤ c.args.value))
