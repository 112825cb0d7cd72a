use Rattle.utc_value.specs.Stamp.{Stamp, IsInRange}
use Rattle.utc_routines.specs.Tightest.{Bounds, RefusesBound}
use Rattle.utc_routines.proofs.OneResult.{one_bound}
use Rattle.utc_routines.proofs.Refusals.{bound_apart, bound_fault}
use Rattle.utc_routines.proofs.Exactly.{both, given_exactly, refused_exactly}
use Rattle.utc_routines.proofs.intervals.bound.Goals as goal

pub returns-clause-bound : goal.returns-clause-bound
returns-clause-bound c =
    given_exactly (λ (r : Stamp). Bounds c.args.a c.args.b r × IsInRange r) (RefusesBound c.args.a c.args.b)
    (λ x fault h. bound_apart c.args.a c.args.b x fault h.0 h.1)
    (λ x y h k. one_bound c.args.a c.args.b x y h.0 k.0) c.bounded.result
    (both _ _ _ c.bounded.ensures.ok c.bounded.ensures.in_range) c.bounded.ensures.err

pub returns-clause-refused : goal.returns-clause-refused
returns-clause-refused c =
    refused_exactly (λ (r : Stamp). Bounds c.args.a c.args.b r × IsInRange r) (RefusesBound c.args.a c.args.b)
    (λ x fault h. bound_apart c.args.a c.args.b x fault h.0 h.1)
    (bound_fault c.args.a c.args.b) c.bounded.result
    (both _ _ _ c.bounded.ensures.ok c.bounded.ensures.in_range) c.bounded.ensures.err
