use Rattle.std.proofs.Common.{◌≡◌, pos, ◌≤ℤ◌, ◌^◌, ◌-◌, ◌∙◌, arith, to_z, of_z}
use Rattle.std.proofs.lemmas.Int.{ints}
use Rattle.std.specs.Int.{w64, w128}
use Rattle.slew_clock.specs.Record.{end_of}
use Rattle.slew_clock.specs.Line.{line}
use Rattle.slew_clock.specs.Change.{slew_to_middle}
use Rattle.slew_clock.proofs.Fits.{fits_from}
use Rattle.slew_clock.proofs.LineLaws.{parts_meet, line_from, line_to}
use Rattle.slew_clock.proofs.change.resumed.Goals as goal
use Rattle.slew_clock.proofs.change.resumed.Goals.{After-line_at-value}

-- the value at the end
value : (c : After-line_at-value) → (pos 0 ≤ℤ c.line_at-value.result) × (c.line_at-value.result ≤ℤ pos (2 ^ 63 - 1))
value c =
    let r = c.args.r.now in
    let rec = c.args.rec.now in
    let s = c.requires.sound in
    let end = line_from r rec (end_of r rec) s in
    let end_to = line_to r rec (end_of r rec) s (omega (arith, parts_meet r rec s)) in
    (omega (arith, ints, c.line_at-value.ensures, end), omega (arith, ints, c.line_at-value.ensures, end_to))

pub overflow_cast-result : goal.overflow_cast-result
overflow_cast-result c =
    let v = value (goal.at.overflow_cast-result c).After-line_at-value in
    fits_from _ (omega (arith, ints, v)) (omega (arith, ints, v))

pub slew_to_middle-requires-clause-value : goal.slew_to_middle-requires-clause-value
slew_to_middle-requires-clause-value c =
    let v = value (goal.at.slew_to_middle-requires-clause-value c).After-line_at-value in
    (omega (arith, ints, v), omega (arith, ints, v))

pub returns : goal.returns
returns c =
    let v = value (goal.at.returns c).After-line_at-value in
    let r = c.args.r.now in
    let rec = c.args.rec.now in
    let end : to_z w128 (of_z w128 c.line_at-value.result) ≡ line r rec (end_of r rec) = omega (arith, ints, c.line_at-value.ensures, v) in
    let slew : c.slew_to_middle.result ≡ slew_to_middle r rec c.args.osc (line r rec (end_of r rec)) = c.slew_to_middle.ensures ∙ rw end in
    let kept : to_z w64 (of_z w64 c.slew_to_middle.result) ≡ c.slew_to_middle.result = omega (arith, ints, c.slew_to_middle.type_inv) in
    let value : to_z w64 (of_z w64 (to_z w128 (of_z w128 c.line_at-value.result))) ≡ line r rec (end_of r rec) = omega (arith, ints, c.line_at-value.ensures, v) in
    rw (value, kept, slew)
