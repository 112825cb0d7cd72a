use Rattle.line_reader.proofs.Decimals.{one_number, whole_written}
use Rattle.line_reader.proofs.field_laws.numbers_have_one_text.Goals as goal

pub returns-clause-number : goal.returns-clause-number
returns-clause-number c = one_number

pub returns-clause-text : goal.returns-clause-text
returns-clause-text c = whole_written
