use Rattle.std.proofs.Common.{◌≡◌, ◌-◌, pos, ◌+ℤ◌, ap, ◌∙◌, inl, inr, arith, rules, SFits}
use Rattle.std.proofs.lemmas.Int.{ints}
use Rattle.std.specs.Int.{w64}
use Rattle.slew_clock.specs.Line.{advance}
use Rattle.slew_clock.proofs.LineLaws.{advance-zero, advance_whole}
use Rattle.slew_clock.proofs.clock.joint_of.Goals as goal

pub returns-then-rec : goal.returns-then-rec
returns-then-rec c =
    let r = c.args.r.now in
    let rec = c.args.rec.now in
    let together : rec.b.from - rec.a.from ≡ 0 = omega (arith, c.if-rec.true) in
    let still : advance r rec.a.x (rec.b.from - rec.a.from) ≡ pos 0 = ap (advance r rec.a.x) together ∙ advance-zero r rec.a.x c.requires.a_slew in
    omega (arith, ints, still, c.from-value.ensures, c.requires.value_from, c.requires.value_to)

pub returns : goal.returns
returns c =
    let r = c.args.r.now in
    let rec = c.args.rec.now in
    let fits : SFits w64 rec.a.x = search rules in
    let apart : rec.b.from - rec.a.from ≡ r.lease = elim c.requires.parts [ inl h ↦ absurd (omega (arith, c.if-rec.false, h)) | inr h ↦ omega arith ] in
    let whole : advance r rec.a.x (rec.b.from - rec.a.from) ≡ pos r.lease +ℤ rec.a.x = ap (advance r rec.a.x) apart ∙ advance_whole r rec.a.x c.requires.a_slew in
    omega (arith, ints, whole, c.from-value.ensures, c.from.ensures, c.from-2.ensures, fits, c.requires.value_from, c.requires.value_to)
