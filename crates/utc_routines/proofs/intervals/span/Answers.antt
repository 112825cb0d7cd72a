use Rattle.utc_value.specs.Stamp.{Stamp, IsInRange}
use Rattle.utc_routines.specs.Tightest.{Spans}
use Rattle.utc_routines.specs.Comparison.{RefusesUnlike}
use Rattle.utc_routines.proofs.OneResult.{one_span}
use Rattle.utc_routines.proofs.Refusals.{unlike_apart, unlike_fault}
use Rattle.utc_routines.proofs.Exactly.{both, given_exactly, refused_exactly}
use Rattle.utc_routines.proofs.intervals.span.Goals as goal

pub returns-clause-span : goal.returns-clause-span
returns-clause-span c =
    given_exactly (λ (r : Stamp). Spans c.args.a c.args.b r × IsInRange r) (RefusesUnlike c.args.a c.args.b)
    (λ x fault h. unlike_apart c.args.a c.args.b fault h.0.operands)
    (λ x y h k. one_span c.args.a c.args.b x y h.0 k.0) c.spanned.result
    (both _ _ _ c.spanned.ensures.ok c.spanned.ensures.in_range) c.spanned.ensures.err

pub returns-clause-refused : goal.returns-clause-refused
returns-clause-refused c =
    refused_exactly (λ (r : Stamp). Spans c.args.a c.args.b r × IsInRange r) (RefusesUnlike c.args.a c.args.b)
    (λ x fault h. unlike_apart c.args.a c.args.b fault h.0.operands)
    (unlike_fault c.args.a c.args.b) c.spanned.result
    (both _ _ _ c.spanned.ensures.ok c.spanned.ensures.in_range) c.spanned.ensures.err
