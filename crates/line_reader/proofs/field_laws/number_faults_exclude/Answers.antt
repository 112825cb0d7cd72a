use Rattle.line_reader.proofs.Deciding.{number_or_fault}
use Rattle.line_reader.proofs.Decimals.{no_number, one_fault}
use Rattle.line_reader.proofs.field_laws.number_faults_exclude.Goals as goal

pub returns-clause-number : goal.returns-clause-number
returns-clause-number c = no_number

pub returns-clause-fault : goal.returns-clause-fault
returns-clause-fault c = one_fault

pub returns-clause-total : goal.returns-clause-total
returns-clause-total c = number_or_fault
