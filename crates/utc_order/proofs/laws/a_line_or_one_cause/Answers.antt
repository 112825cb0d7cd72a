use Rattle.utc_order.proofs.UniqueFacts.{one_line, not_refused}
use Rattle.utc_order.proofs.CauseFacts.{one_cause, taken_or_refused}
use Rattle.utc_order.proofs.laws.a_line_or_one_cause.Goals as goal

pub returns-clause-either : goal.returns-clause-either
returns-clause-either c = taken_or_refused

pub returns-clause-not_both : goal.returns-clause-not_both
returns-clause-not_both c = not_refused

pub returns-clause-one_line : goal.returns-clause-one_line
returns-clause-one_line c = one_line

pub returns-clause-one_cause : goal.returns-clause-one_cause
returns-clause-one_cause c = one_cause
