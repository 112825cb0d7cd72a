use Rattle.std.proofs.Common.{◌≡◌, ℕ, ◌^◌, ◌-◌, ◌<◌, ◌≤◌, ℤ, pos, negsuc, ◌*ℤ◌, refl, ◌∙◌, arith, lit<, SFits, to_z, of_z, unsigned_abs}
use Rattle.std.proofs.lemmas.Int.{ints, to_z-of_z, fits_signed_mul}
use Rattle.std.specs.Int.{w64, w128}
use Rattle.slew_clock.specs.Line.{floor_of}
use Rattle.slew_clock.proofs.LineLaws.{advance_from, advance_to}
use Rattle.slew_clock.proofs.clock.wide_advance.Goals as goal

size : (x : ℤ) → SFits w64 x → unsigned_abs x ≤ 2 ^ 63
size (pos a) fits = omega arith
size (negsuc a) fits = omega arith

-- the product of a number of 64 bits and one below 2^64 fits 128 bits
product_fits : (x : ℤ) (e : ℕ) → SFits w64 x → e < 2 ^ 64 → SFits w128 (x *ℤ pos e)
product_fits x e fits below =
    fits_signed_mul w128 x (pos e) (2 ^ 63) (2 ^ 64 - 1) (size x fits) (omega arith) (lit< tt)

-- nothing is lost on the way
pub returns : goal.returns
returns c =
    let slew : to_z w128 (of_z w128 c.from.result) ≡ c.args.x = omega (arith, ints) in
    let elapsed : to_z w128 (of_z w128 c.from-2.result) ≡ pos c.args.elapsed = omega (arith, ints) in
    let lease : to_z w128 (of_z w128 c.from-4.result) ≡ pos c.args.r.now.lease = omega (arith, ints) in
    let fits = product_fits c.args.x c.args.elapsed c.ranges.x (omega arith) in
    let whole = to_z-of_z w128 (c.args.x *ℤ pos c.args.elapsed) fits in
    let floor : c.div_euclid.result ≡ floor_of (c.args.x *ℤ pos c.args.elapsed) c.args.r.now.lease =
    c.div_euclid.ensures ∙ rw (slew, elapsed, lease, whole) refl in
    let from = advance_from c.args.r.now c.args.x c.args.elapsed c.requires in
    let to = advance_to c.args.r.now c.args.x c.args.elapsed c.requires in
    omega (arith, ints, floor, from, to)
