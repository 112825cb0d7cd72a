use Rattle.std.proofs.Common.{FitsSigned, w32, to_z-of_z}
use Rattle.utc_value.specs.Stamp.{Stamp, IsInRange}
use Rattle.utc_routines.specs.Arithmetic.{Multiplies, RefusesProduct}
use Rattle.utc_routines.proofs.OneResult.{one_multiple}
use Rattle.utc_routines.proofs.Refusals.{product_apart, product_fault}
use Rattle.utc_routines.proofs.Exactly.{both, given_exactly, refused_exactly}
use Rattle.utc_routines.proofs.arithmetic.mul.Goals as goal

pub returns-clause-multiple : goal.returns-clause-multiple
returns-clause-multiple c =
    let fits : FitsSigned w32 c.args.k = c.ranges.k in
    given_exactly (λ (r : Stamp). Multiplies c.args.a c.args.k r × IsInRange r) (RefusesProduct c.args.a c.args.k)
    (λ x fault h. product_apart c.args.a c.args.k x fault h.0 h.1)
    (λ x y h k. one_multiple c.args.a c.args.k x y h.0 k.0) c.multiple_of.result
    (both _ _ _ (simp to_z-of_z at c.multiple_of.ensures.ok) c.multiple_of.ensures.in_range) (simp to_z-of_z at c.multiple_of.ensures.err)

pub returns-clause-refused : goal.returns-clause-refused
returns-clause-refused c =
    let fits : FitsSigned w32 c.args.k = c.ranges.k in
    refused_exactly (λ (r : Stamp). Multiplies c.args.a c.args.k r × IsInRange r) (RefusesProduct c.args.a c.args.k)
    (λ x fault h. product_apart c.args.a c.args.k x fault h.0 h.1)
    (product_fault c.args.a c.args.k) c.multiple_of.result
    (both _ _ _ (simp to_z-of_z at c.multiple_of.ensures.ok) c.multiple_of.ensures.in_range) (simp to_z-of_z at c.multiple_of.ensures.err)
