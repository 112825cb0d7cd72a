use Rattle.std.proofs.Common.{◌≡◌, ◌+◌, ◌*◌, ◌/◌, pos, ◌+ℤ◌, sym, ap, ◌∙◌, arith, to_z, of_z}
use Rattle.std.proofs.lemmas.Int.{ints, to_z-of_z}
use Rattle.std.specs.Int.{w64}
use Rattle.slew_clock.proofs.LineLaws.{pace_is, advance_at_pace}
use Rattle.slew_clock.proofs.clock.usual_advance.Goals as goal

pub returns : goal.returns
returns c =
    let r = c.args.r.now in
    let fits = to_z-of_z w64 c.args.x c.ranges.x in
    let pace = pace_is r c.args.x c.requires.slew in
    let whole : to_z w64 (of_z w64 (pos 40000000 +ℤ to_z w64 (of_z w64 c.args.x))) ≡ pos pace.0 =
    omega (arith, ints, fits, pace.1, pace.2, c.requires.lease) in
    let there = advance_at_pace r c.args.x c.args.elapsed pace.0 pace.2 in
    rw whole (ap (λ n. pos (pace.0 * c.args.elapsed / n)) (sym c.requires.lease) ∙ sym there)
