use Rattle.utc_value.specs.Stamp.{Stamp, IsInRange}
use Rattle.utc_routines.specs.Arithmetic.{Subtracts, RefusesDifference}
use Rattle.utc_routines.proofs.OneResult.{one_difference}
use Rattle.utc_routines.proofs.Refusals.{difference_apart, difference_fault}
use Rattle.utc_routines.proofs.Exactly.{both, given_exactly, refused_exactly}
use Rattle.utc_routines.proofs.arithmetic.sub.Goals as goal

pub returns-clause-difference : goal.returns-clause-difference
returns-clause-difference c =
    given_exactly (λ (r : Stamp). Subtracts c.args.a c.args.b r × IsInRange r) (RefusesDifference c.args.a c.args.b)
    (λ x fault h. difference_apart c.args.a c.args.b x fault h.0 h.1)
    (λ x y h k. one_difference c.args.a c.args.b x y h.0 k.0) c.difference_of.result
    (both _ _ _ c.difference_of.ensures.ok c.difference_of.ensures.in_range) c.difference_of.ensures.err

pub returns-clause-refused : goal.returns-clause-refused
returns-clause-refused c =
    refused_exactly (λ (r : Stamp). Subtracts c.args.a c.args.b r × IsInRange r) (RefusesDifference c.args.a c.args.b)
    (λ x fault h. difference_apart c.args.a c.args.b x fault h.0 h.1)
    (difference_fault c.args.a c.args.b) c.difference_of.result
    (both _ _ _ c.difference_of.ensures.ok c.difference_of.ensures.in_range) c.difference_of.ensures.err
