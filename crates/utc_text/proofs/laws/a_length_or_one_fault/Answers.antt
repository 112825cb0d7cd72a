use Rattle.utc_text.proofs.TextLaws.{relative_either, relative_not_both, relative_one_fault}
use Rattle.utc_text.proofs.laws.a_length_or_one_fault.Goals as goal

pub returns-clause-either : goal.returns-clause-either
returns-clause-either c = relative_either

pub returns-clause-not_both : goal.returns-clause-not_both
returns-clause-not_both c = relative_not_both

pub returns-clause-one_fault : goal.returns-clause-one_fault
returns-clause-one_fault c = relative_one_fault
