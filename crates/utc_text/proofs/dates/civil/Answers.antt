use Rattle.std.proofs.Common.{rules, sym, ◌∙◌, FitsSigned, w64, to_z-of_z}
use mir.Syntax.{w16}
use Rattle.utc_text.proofs.CivilAnswers.{succeeds, only, year, no_memory}
use Rattle.utc_text.proofs.dates.civil.Goals as goal

pub returns-in-Absolute-clause-succeeds : goal.returns-in-Absolute-clause-succeeds
returns-in-Absolute-clause-succeeds c =
    let fits16 : FitsSigned w16 c.args.tdf = c.ranges.tdf in
    let fits64 : FitsSigned w64 c.time.result = search rules in
    let time = c.time.ensures.value in
    let value = simp time at (simp to_z-of_z at c.civil_at.ensures.value) in
    let err = simp time at (simp to_z-of_z at c.civil_at.ensures.err) in
    succeeds c.civil_at.result c.args.u c.args.tdf (sym c.kind.ensures.value ∙ c.in-Absolute.is) value err

pub returns-in-Absolute-clause-only : goal.returns-in-Absolute-clause-only
returns-in-Absolute-clause-only c =
    let fits16 : FitsSigned w16 c.args.tdf = c.ranges.tdf in
    let fits64 : FitsSigned w64 c.time.result = search rules in
    let time = c.time.ensures.value in
    let value = simp time at (simp to_z-of_z at c.civil_at.ensures.value) in
    let err = simp time at (simp to_z-of_z at c.civil_at.ensures.err) in
    λ civil h kind tdf e. only c.civil_at.result c.args.u.time c.args.tdf value err civil h tdf e

pub returns-in-Absolute-clause-year : goal.returns-in-Absolute-clause-year
returns-in-Absolute-clause-year c =
    let fits16 : FitsSigned w16 c.args.tdf = c.ranges.tdf in
    let fits64 : FitsSigned w64 c.time.result = search rules in
    let time = c.time.ensures.value in
    let value = simp time at (simp to_z-of_z at c.civil_at.ensures.value) in
    let err = simp time at (simp to_z-of_z at c.civil_at.ensures.err) in
    year c.civil_at.result c.args.u c.args.tdf (sym c.kind.ensures.value ∙ c.in-Absolute.is) value err

pub returns-in-Absolute-clause-memory : goal.returns-in-Absolute-clause-memory
returns-in-Absolute-clause-memory c = no_memory c.civil_at.result _ _ c.civil_at.ensures.err
