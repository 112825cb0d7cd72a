use Rattle.utc_text.proofs.TextLaws.{absolute_either, absolute_not_both, absolute_one_fault}
use Rattle.utc_text.proofs.laws.a_moment_or_one_fault.Goals as goal

pub returns-clause-either : goal.returns-clause-either
returns-clause-either c = absolute_either

pub returns-clause-not_both : goal.returns-clause-not_both
returns-clause-not_both c = absolute_not_both

pub returns-clause-one_fault : goal.returns-clause-one_fault
returns-clause-one_fault c = absolute_one_fault
