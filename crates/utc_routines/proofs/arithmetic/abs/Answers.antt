use Rattle.utc_value.specs.Stamp.{Stamp, IsInRange}
use Rattle.utc_routines.specs.Arithmetic.{TakesAbsolute, RefusesAbsolute}
use Rattle.utc_routines.proofs.OneResult.{one_absolute}
use Rattle.utc_routines.proofs.Refusals.{absolute_apart, absolute_fault}
use Rattle.utc_routines.proofs.Exactly.{both, given_exactly, refused_exactly}
use Rattle.utc_routines.proofs.arithmetic.abs.Goals as goal

pub returns-clause-absolute : goal.returns-clause-absolute
returns-clause-absolute c =
    given_exactly (λ (r : Stamp). TakesAbsolute c.args.a r × IsInRange r) (RefusesAbsolute c.args.a)
    (λ x fault h. absolute_apart c.args.a x fault h.0 h.1)
    (λ x y h k. one_absolute c.args.a x y h.0 k.0) c.absolute_of.result
    (both _ _ _ c.absolute_of.ensures.ok c.absolute_of.ensures.in_range) c.absolute_of.ensures.err

pub returns-clause-refused : goal.returns-clause-refused
returns-clause-refused c =
    refused_exactly (λ (r : Stamp). TakesAbsolute c.args.a r × IsInRange r) (RefusesAbsolute c.args.a)
    (λ x fault h. absolute_apart c.args.a x fault h.0 h.1)
    (absolute_fault c.args.a) c.absolute_of.result
    (both _ _ _ c.absolute_of.ensures.ok c.absolute_of.ensures.in_range) c.absolute_of.ensures.err
