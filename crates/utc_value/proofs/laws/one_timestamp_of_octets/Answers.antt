use Rattle.utc_value.proofs.OctetLaws.{same_octets, octets_right, one_fault}
use Rattle.utc_value.proofs.laws.one_timestamp_of_octets.Goals as goal

pub returns-clause-one : goal.returns-clause-one
returns-clause-one c = same_octets

pub returns-clause-not_both : goal.returns-clause-not_both
returns-clause-not_both c = octets_right

pub returns-clause-one_fault : goal.returns-clause-one_fault
returns-clause-one_fault c = one_fault
