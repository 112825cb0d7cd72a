use Rattle.std.proofs.Common.{FitsSigned, to_z-of_z}
use mir.Syntax.{w16}
use Rattle.utc_value.specs.Stamp.{Stamp, IsInRange}
use Rattle.utc_routines.specs.Arithmetic.{ChangesTdf, RefusesTdf}
use Rattle.utc_routines.proofs.OneResult.{one_moment}
use Rattle.utc_routines.proofs.Refusals.{tdf_apart, tdf_fault}
use Rattle.utc_routines.proofs.Exactly.{both, given_exactly, refused_exactly}
use Rattle.utc_routines.proofs.arithmetic.with_tdf.Goals as goal

pub returns-clause-moment : goal.returns-clause-moment
returns-clause-moment c =
    let fits : FitsSigned w16 c.args.tdf = c.ranges.tdf in
    given_exactly (λ (r : Stamp). ChangesTdf c.args.a c.args.tdf r × IsInRange r) (RefusesTdf c.args.a c.args.tdf)
    (λ x fault h. tdf_apart c.args.a c.args.tdf x fault h.0 h.1)
    (λ x y h k. one_moment c.args.a c.args.tdf x y h.0 k.0) c.moved_to.result
    (both _ _ _ (simp to_z-of_z at c.moved_to.ensures.ok) c.moved_to.ensures.in_range) (simp to_z-of_z at c.moved_to.ensures.err)

pub returns-clause-refused : goal.returns-clause-refused
returns-clause-refused c =
    let fits : FitsSigned w16 c.args.tdf = c.ranges.tdf in
    refused_exactly (λ (r : Stamp). ChangesTdf c.args.a c.args.tdf r × IsInRange r) (RefusesTdf c.args.a c.args.tdf)
    (λ x fault h. tdf_apart c.args.a c.args.tdf x fault h.0 h.1)
    (tdf_fault c.args.a c.args.tdf) c.moved_to.result
    (both _ _ _ (simp to_z-of_z at c.moved_to.ensures.ok) c.moved_to.ensures.in_range) (simp to_z-of_z at c.moved_to.ensures.err)
