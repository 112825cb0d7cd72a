use Rattle.line_reader.proofs.FieldFacts.{at_column}
use Rattle.line_reader.proofs.field_laws.fields_have_columns.Goals as goal

pub returns-clause-field : goal.returns-clause-field
returns-clause-field c = at_column
