use Rattle.std.proofs.Common.{rules, refl, ◌∙◌, FitsSigned, w64, to_z-of_z}
use mir.Syntax.{w16}
use Rattle.utc_text.specs.Civil.{IsCivil}
use Rattle.utc_text.proofs.dates.from_civil.Goals as goal

pub returns-in-Ok-clause-value : goal.returns-in-Ok-clause-value
returns-in-Ok-clause-value c =
    let civil : IsCivil c.args.c = search rules in
    let fits16 : FitsSigned w16 c.args.tdf = c.ranges.tdf in
    let fits64 : FitsSigned w64 c.count_in_utc.result = search rules in
    let ok = simp to_z-of_z at c.in-Ok.ensures.ok in
    let count = simp to_z-of_z at c.count_in_utc.ensures in
    ((civil, ok.0.0, ok.0.1), ok.1 ∙ rw count refl)

pub returns-in-Err-InaccuracyRange-clause-inaccuracy : goal.returns-in-Err-InaccuracyRange-clause-inaccuracy
returns-in-Err-InaccuracyRange-clause-inaccuracy c =
    let civil : IsCivil c.args.c = search rules in
    (λ _. (civil, c.in-Err-InaccuracyRange.ensures.inaccuracy.0 (rw c.in-Err-InaccuracyRange.field-0-is refl)), λ _. refl)

pub returns-in-Err-TdfRange-clause-tdf : goal.returns-in-Err-TdfRange-clause-tdf
returns-in-Err-TdfRange-clause-tdf c =
    let civil : IsCivil c.args.c = search rules in
    let fits16 : FitsSigned w16 c.args.tdf = c.ranges.tdf in
    let tdf = simp to_z-of_z at c.in-Err-TdfRange.ensures.tdf in
    let both = tdf.0 (rw c.in-Err-TdfRange.field-0-is refl) in
    (λ _. (civil, both.0, both.1), λ _. refl)
