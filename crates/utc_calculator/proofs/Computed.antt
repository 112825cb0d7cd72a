-- An operation with a result is not refused by its routine.
use Rattle.std.proofs.Common.{ℕ, List}
use Rattle.utc_value.specs.Stamp.{Stamp}
use Rattle.utc_routines.specs.declared.UtcFault.{UtcFault}
use Rattle.utc_routines.specs.declared.Order4.{Order4}
use Rattle.utc_routines.proofs.Refusals.{sum_apart, difference_apart, absolute_apart, product_apart, bound_apart, tdf_apart, points_apart, unlike_apart}
use Rattle.utc_calculator.specs.declared.operation.Operation.{Operation}
use Rattle.utc_calculator.specs.declared.operation.Operation.TheVariants as op
use Rattle.utc_calculator.specs.declared.operation.Outcome.{Outcome}
use Rattle.utc_calculator.specs.declared.operation.Outcome.TheVariants as out
use Rattle.utc_calculator.specs.Results.{YieldsTime, YieldsPoints, YieldsOrder, YieldsOctets, Yields, RefusesRoutine}

-- each kind of result
time_computed : (o : Operation) (r : Stamp) (fault : UtcFault) → YieldsTime o r → RefusesRoutine o fault → ⊥
time_computed (op.Add a b) r fault h refused = sum_apart a b r fault h.0 h.1 refused
time_computed (op.Sub a b) r fault h refused = difference_apart a b r fault h.0 h.1 refused
time_computed (op.Abs a) r fault h refused = absolute_apart a r fault h.0 h.1 refused
time_computed (op.Mul a k) r fault h refused = product_apart a k r fault h.0 h.1 refused
time_computed (op.Span a b) r fault h refused = unlike_apart a b fault h.0.operands refused
time_computed (op.Bound a b) r fault h refused = bound_apart a b r fault h.0 h.1 refused
time_computed (op.Tdf a t) r fault h refused = tdf_apart a t r fault h.0 h.1 refused
time_computed (op.Text a) r fault h refused = refused
time_computed o r fault h refused = h

points_yielded : (o : Operation) (first middle last : Stamp) (fault : UtcFault) → YieldsPoints o first middle last → RefusesRoutine o fault → ⊥
points_yielded (op.Point a) first middle last fault h refused = points_apart a first middle last fault h.0 h.1 h.3 refused
points_yielded o first middle last fault h refused = h

order_yielded : (o : Operation) (order : Order4) (fault : UtcFault) → YieldsOrder o order → RefusesRoutine o fault → ⊥
order_yielded (op.Interval a b) order fault h refused = unlike_apart a b fault h.0 refused
order_yielded (op.Mid a b) order fault h refused = unlike_apart a b fault h.0 refused
order_yielded o order fault h refused = h

octets_yielded : (o : Operation) (octets : List ℕ) (fault : UtcFault) → YieldsOctets o octets → RefusesRoutine o fault → ⊥
octets_yielded (op.Bytes a) octets fault h refused = refused
octets_yielded o octets fault h refused = h

-- an operation with a result is not refused by its routine
pub computed : (o : Operation) (outcome : Outcome) (fault : UtcFault) → Yields o outcome → RefusesRoutine o fault → ⊥
computed o (out.Time r) fault h refused = time_computed o r fault h refused
computed o (out.Points first middle last) fault h refused = points_yielded o first middle last fault h refused
computed o (out.Order order) fault h refused = order_yielded o order fault h refused
computed o (out.Octets octets) fault h refused = octets_yielded o octets fault h refused
