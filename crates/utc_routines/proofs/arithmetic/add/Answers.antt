use Rattle.utc_value.specs.Stamp.{Stamp, IsInRange}
use Rattle.utc_routines.specs.Arithmetic.{Adds, RefusesSum}
use Rattle.utc_routines.proofs.OneResult.{one_sum}
use Rattle.utc_routines.proofs.Refusals.{sum_apart, sum_fault}
use Rattle.utc_routines.proofs.Exactly.{both, given_exactly, refused_exactly}
use Rattle.utc_routines.proofs.arithmetic.add.Goals as goal

pub returns-clause-sum : goal.returns-clause-sum
returns-clause-sum c =
    given_exactly (λ (r : Stamp). Adds c.args.a c.args.b r × IsInRange r) (RefusesSum c.args.a c.args.b)
    (λ x fault h. sum_apart c.args.a c.args.b x fault h.0 h.1)
    (λ x y h k. one_sum c.args.a c.args.b x y h.0 k.0) c.sum_of.result
    (both _ _ _ c.sum_of.ensures.ok c.sum_of.ensures.in_range) c.sum_of.ensures.err

pub returns-clause-refused : goal.returns-clause-refused
returns-clause-refused c =
    refused_exactly (λ (r : Stamp). Adds c.args.a c.args.b r × IsInRange r) (RefusesSum c.args.a c.args.b)
    (λ x fault h. sum_apart c.args.a c.args.b x fault h.0 h.1)
    (sum_fault c.args.a c.args.b) c.sum_of.result (both _ _ _ c.sum_of.ensures.ok c.sum_of.ensures.in_range) c.sum_of.ensures.err
