use Rattle.utc_routines.proofs.Refusals.{sum_apart, difference_apart, absolute_apart, product_apart, tdf_apart, bound_apart, points_apart, unlike_apart}
use Rattle.utc_routines.proofs.laws.no_operands_are_both.Goals as goal

pub returns-clause-sum : goal.returns-clause-sum
returns-clause-sum c = sum_apart

pub returns-clause-difference : goal.returns-clause-difference
returns-clause-difference c = difference_apart

pub returns-clause-absolute : goal.returns-clause-absolute
returns-clause-absolute c = absolute_apart

pub returns-clause-multiple : goal.returns-clause-multiple
returns-clause-multiple c = product_apart

pub returns-clause-moment : goal.returns-clause-moment
returns-clause-moment c = tdf_apart

pub returns-clause-bound : goal.returns-clause-bound
returns-clause-bound c = bound_apart

pub returns-clause-points : goal.returns-clause-points
returns-clause-points c = points_apart

pub returns-clause-unlike : goal.returns-clause-unlike
returns-clause-unlike c = unlike_apart
