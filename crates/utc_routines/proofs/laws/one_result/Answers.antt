use Rattle.utc_routines.proofs.OneResult.{one_sum, one_difference, one_absolute, one_multiple, one_moment, one_span, one_bound, one_first, one_interval_order, one_time_order}
use Rattle.utc_routines.proofs.laws.one_result.Goals as goal

pub returns-clause-sum : goal.returns-clause-sum
returns-clause-sum c = one_sum

pub returns-clause-difference : goal.returns-clause-difference
returns-clause-difference c = one_difference

pub returns-clause-absolute : goal.returns-clause-absolute
returns-clause-absolute c = one_absolute

pub returns-clause-multiple : goal.returns-clause-multiple
returns-clause-multiple c = one_multiple

pub returns-clause-moment : goal.returns-clause-moment
returns-clause-moment c = one_moment

pub returns-clause-span : goal.returns-clause-span
returns-clause-span c = one_span

pub returns-clause-bound : goal.returns-clause-bound
returns-clause-bound c = one_bound

pub returns-clause-points : goal.returns-clause-points
returns-clause-points c = one_first

pub returns-clause-interval_order : goal.returns-clause-interval_order
returns-clause-interval_order c = one_interval_order

pub returns-clause-time_order : goal.returns-clause-time_order
returns-clause-time_order c = one_time_order
