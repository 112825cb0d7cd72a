use Rattle.std.proofs.Common.{◌≡◌, ◌-◌, min, ap, ◌∙◌, arith, rules, SFits}
use Rattle.std.proofs.lemmas.Int.{ints, to_z-of_z}
use Rattle.std.specs.Int.{w64}
use Rattle.slew_clock.specs.Record.{end_of}
use Rattle.slew_clock.specs.Line.{advance, first_part}
use Rattle.slew_clock.proofs.Fits.{fits_between}
use Rattle.slew_clock.proofs.LineLaws.{advance_from, advance_to, line_first, line_second, parts_meet}
use Rattle.slew_clock.proofs.clock.line_at.Goals as goal

pub returns-then-osc-rec : goal.returns-then-osc-rec
returns-then-osc-rec c =
    let r = c.args.r.now in
    let rec = c.args.rec.now in
    let fits : SFits w64 rec.a.x = search rules in
    let is = line_first r rec c.args.osc c.if-osc-rec.true in
    let first = c.advance_by.ensures in
    let on : c.advance_by.result ≡ advance r rec.a.x (c.args.osc - rec.a.from) =
    first.advance ∙ ap (λ v. advance r v (c.args.osc - rec.a.from)) (to_z-of_z w64 rec.a.x fits) in
    omega (arith, ints, is, on, first.from, first.to, c.requires.sound.value_from, c.requires.sound.value_to)

pub overflow_add-result-2 : goal.overflow_add-result-2
overflow_add-result-2 c =
    let r = c.args.r.now in
    let rec = c.args.rec.now in
    let sound = c.requires.sound in
    let meets = parts_meet r rec sound in
    let from = advance_from r rec.a.x (rec.b.from - rec.a.from) sound.a_slew in
    let to = advance_to r rec.a.x (rec.b.from - rec.a.from) sound.a_slew in
    let joint : c.joint_of.result ≡ first_part r rec rec.b.from = c.joint_of.ensures in
    let on = c.advance_by-2.ensures in
    let short = c.min-elapsed.ensures in
    fits_between _ (omega (arith, ints, joint, meets, from, to, on.from, on.to, short, sound.value_from, sound.value_to))
    (omega (arith, ints, joint, meets, from, to, on.from, on.to, short, sound.value_from, sound.value_to))

pub returns : goal.returns
returns c =
    let r = c.args.r.now in
    let rec = c.args.rec.now in
    let fits : SFits w64 rec.b.x = search rules in
    let is = line_second r rec c.args.osc c.if-osc-rec.false in
    let meets = parts_meet r rec c.requires.sound in
    let from = advance_from r rec.a.x (rec.b.from - rec.a.from) c.requires.sound.a_slew in
    let to = advance_to r rec.a.x (rec.b.from - rec.a.from) c.requires.sound.a_slew in
    let second = c.advance_by-2.ensures in
    let at : c.min-elapsed.result ≡ min c.args.osc (end_of r rec) - rec.b.from = omega (arith, c.min-elapsed.ensures, c.if-osc-rec.false) in
    let joint : c.joint_of.result ≡ first_part r rec rec.b.from = c.joint_of.ensures in
    let on : c.advance_by-2.result ≡ advance r rec.b.x (min c.args.osc (end_of r rec) - rec.b.from) =
    second.advance
    ∙ ap (λ v. advance r v c.min-elapsed.result) (to_z-of_z w64 rec.b.x fits)
    ∙ ap (λ v. advance r rec.b.x v) at in
    omega (arith, ints, is, on, joint, meets, at, from, to, second.from, second.to, c.requires.sound.value_from, c.requires.sound.value_to)
