use Rattle.std.proofs.Common.{◌≡◌, pos, ◌≤ℤ◌, ◌^◌, ◌-◌, ◌∙◌, arith, to_z, of_z, SFits, rules}
use Rattle.std.proofs.lemmas.Int.{ints, to_z-of_z}
use Rattle.std.specs.Int.{w64, w128}
use Rattle.slew_clock.specs.Record.{end_of}
use Rattle.slew_clock.specs.Line.{line}
use Rattle.slew_clock.specs.Change.{slew_to_middle}
use Rattle.slew_clock.proofs.Fits.{fits_from}
use Rattle.slew_clock.proofs.LineLaws.{parts_meet, line_from, line_to}
use Rattle.slew_clock.proofs.change.prolonged.Goals as goal
use Rattle.slew_clock.proofs.change.prolonged.Goals.{After-line_at}

-- the values at the joint and at the end
values : (c : After-line_at) → (pos 0 ≤ℤ c.line_at.result) × (c.line_at.result ≤ℤ pos (2 ^ 63 - 1)) × (pos 0 ≤ℤ c.line_at-value.result) × (c.line_at-value.result ≤ℤ pos (2 ^ 63))
values c =
    let r = c.args.r.now in
    let rec = c.args.rec.now in
    let s = c.requires.sound in
    let lease = r.lease_to in
    let joint = line_from r rec rec.b.from s in
    let joint_to = line_to r rec rec.b.from s (parts_meet r rec s) in
    let end = line_from r rec (end_of r rec) s in
    let end_to = line_to r rec (end_of r rec) s (omega (arith, parts_meet r rec s)) in
    (omega (arith, ints, c.line_at.ensures, joint), omega (arith, ints, c.line_at.ensures, joint_to, lease), omega (arith, ints, c.line_at-value.ensures, end), omega (arith, ints, c.line_at-value.ensures, end_to, lease))

pub overflow_cast-result : goal.overflow_cast-result
overflow_cast-result c = let v = values c in fits_from _ (omega (arith, ints, v.0, v.1)) (omega (arith, ints, v.0, v.1))

pub slew_to_middle-requires-clause-value : goal.slew_to_middle-requires-clause-value
slew_to_middle-requires-clause-value c =
    let v = values (goal.at.slew_to_middle-requires-clause-value c).After-line_at in
    (omega (arith, ints, v.2, v.3), omega (arith, ints, v.2, v.3))

pub returns : goal.returns
returns c =
    let v = values (goal.at.returns c).After-line_at in
    let r = c.args.r.now in
    let rec = c.args.rec.now in
    let joint : to_z w64 (of_z w64 (to_z w128 (of_z w128 c.line_at.result))) ≡ line r rec rec.b.from = omega (arith, ints, c.line_at.ensures, v.0, v.1) in
    let end : to_z w128 (of_z w128 c.line_at-value.result) ≡ line r rec (end_of r rec) = omega (arith, ints, c.line_at-value.ensures, v.2, v.3) in
    let slew : c.slew_to_middle.result ≡ slew_to_middle r rec (end_of r rec) (line r rec (end_of r rec)) = c.slew_to_middle.ensures ∙ rw end in
    let kept : to_z w64 (of_z w64 c.slew_to_middle.result) ≡ c.slew_to_middle.result = omega (arith, ints, c.slew_to_middle.type_inv) in
    let fits : SFits w64 rec.b.x = search rules in
    let pace : to_z w64 (of_z w64 rec.b.x) ≡ rec.b.x = to_z-of_z w64 rec.b.x fits in
    rw (joint, pace, kept, slew)
