use Rattle.std.proofs.Common.{◌∙◌, refl, inr, rules, FitsSigned, w64, to_z-of_z, sym, subst}
use mir.Syntax.{w16, w128}
use Rattle.utc_text.specs.Civil.{IsInYears}
use Rattle.utc_text.proofs.dates.civil_at.Goals as goal

pub returns-in-Some-clause-value : goal.returns-in-Some-clause-value
returns-in-Some-clause-value c =
    let fits16 : FitsSigned w16 c.args.tdf = c.ranges.tdf in
    let fits64 : FitsSigned w64 c.args.time = c.ranges.time in
    let fits128 : FitsSigned w128 c.count_at.result = search rules in
    let tdf = simp to_z-of_z at c.is_tdf.ensures in
    let made = simp to_z-of_z at c.in-Some.ensures in
    let count = simp to_z-of_z at c.count_at.ensures in
    (tdf.0 (search rules), made.0, made.1 ∙ count)

pub returns-in-None-clause-err : goal.returns-in-None-clause-err
returns-in-None-clause-err c =
    let fits16 : FitsSigned w16 c.args.tdf = c.ranges.tdf in
    let fits64 : FitsSigned w64 c.args.time = c.ranges.time in
    let fits128 : FitsSigned w128 c.count_at.result = search rules in
    let tdf = simp to_z-of_z at c.is_tdf.ensures in
    let none = simp to_z-of_z at c.in-None.ensures in
    let count = simp to_z-of_z at c.count_at.ensures in
    inr (refl, tdf.0 (search rules), λ in_years. none (subst IsInYears (sym count) in_years))
