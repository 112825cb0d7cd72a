use Rattle.utc_routines.proofs.Refusals.{sum_fault, difference_fault, absolute_fault, product_fault, tdf_fault, bound_fault, points_fault, unlike_fault}
use Rattle.utc_routines.proofs.laws.one_refusal.Goals as goal

pub returns-clause-sum : goal.returns-clause-sum
returns-clause-sum c = sum_fault

pub returns-clause-difference : goal.returns-clause-difference
returns-clause-difference c = difference_fault

pub returns-clause-absolute : goal.returns-clause-absolute
returns-clause-absolute c = absolute_fault

pub returns-clause-multiple : goal.returns-clause-multiple
returns-clause-multiple c = product_fault

pub returns-clause-moment : goal.returns-clause-moment
returns-clause-moment c = tdf_fault

pub returns-clause-bound : goal.returns-clause-bound
returns-clause-bound c = bound_fault

pub returns-clause-points : goal.returns-clause-points
returns-clause-points c = points_fault

pub returns-clause-unlike : goal.returns-clause-unlike
returns-clause-unlike c = unlike_fault
