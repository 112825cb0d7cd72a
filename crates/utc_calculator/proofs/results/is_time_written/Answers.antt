use Rattle.std.proofs.Common.{sym, ◌∙◌, FitsSigned, to_z-of_z, rules}
use mir.Syntax.{w16}
use Rattle.utc_calculator.proofs.Settled.{moment_written, length_written}
use Rattle.utc_calculator.proofs.results.is_time_written.Goals as goal

pub returns-in-Absolute : goal.returns-in-Absolute
returns-in-Absolute c =
    let fits16 : FitsSigned w16 c.tdf.result = search rules in
    let succeeds = simp c.tdf.ensures.value at (simp to_z-of_z at c.civil.ensures.succeeds) in
    let value = simp c.tdf.ensures.value at (simp to_z-of_z at c.civil.ensures.value) in
    moment_written c.civil.result c.args.time c.is_ok.result c.is_ok.ensures.value c.kind.ensures.in_range (sym c.kind.ensures.value ∙ c.in-Absolute.is) succeeds value

pub returns-in-Relative : goal.returns-in-Relative
returns-in-Relative c = length_written c.args.time c.kind.ensures.in_range (sym c.kind.ensures.value ∙ c.in-Relative.is)
