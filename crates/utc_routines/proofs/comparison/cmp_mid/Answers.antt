use Rattle.std.proofs.Common.{◌≡◌}
use Rattle.utc_routines.specs.declared.Order4.{Order4}
use Rattle.utc_routines.specs.Comparison.{IsTimeOrder, RefusesUnlike}
use Rattle.utc_routines.proofs.OneResult.{one_time_order}
use Rattle.utc_routines.proofs.Refusals.{unlike_apart, unlike_fault}
use Rattle.utc_routines.proofs.Exactly.{both, given_exactly, refused_exactly}
use Rattle.utc_routines.proofs.comparison.cmp_mid.Goals as goal

pub returns-clause-order : goal.returns-clause-order
returns-clause-order c =
    given_exactly (λ (o : Order4). (c.args.a.kind ≡ c.args.b.kind) × IsTimeOrder c.args.a c.args.b o) (RefusesUnlike c.args.a c.args.b)
    (λ x fault h. unlike_apart c.args.a c.args.b fault h.0)
    (λ x y h k. one_time_order c.args.a c.args.b x y h.1 k.1) c.times_order.result
    (both _ _ _ c.times_order.ensures.operands c.times_order.ensures.ok) c.times_order.ensures.err

pub returns-clause-refused : goal.returns-clause-refused
returns-clause-refused c =
    refused_exactly (λ (o : Order4). (c.args.a.kind ≡ c.args.b.kind) × IsTimeOrder c.args.a c.args.b o) (RefusesUnlike c.args.a c.args.b)
    (λ x fault h. unlike_apart c.args.a c.args.b fault h.0)
    (unlike_fault c.args.a c.args.b) c.times_order.result
    (both _ _ _ c.times_order.ensures.operands c.times_order.ensures.ok) c.times_order.ensures.err
