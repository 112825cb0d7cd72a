use Rattle.std.proofs.Common.{FitsSigned, to_z-of_z}
use mir.Syntax.{w16}
use Rattle.utc_text.proofs.TextLaws.{moment_text}
use Rattle.utc_text.proofs.laws.every_printable_moment_has_a_text.Goals as goal

pub returns : goal.returns
returns c =
    let fits16 : FitsSigned w16 c.args.tdf = c.ranges.tdf in
    moment_text c.civil.result c.args.u c.args.tdf c.kind-kind.ensures.in_range (simp to_z-of_z at c.civil.ensures.succeeds) (simp to_z-of_z at c.civil.ensures.value)
