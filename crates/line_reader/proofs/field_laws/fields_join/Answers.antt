use Rattle.line_reader.proofs.FieldFacts.{text_of-fields_of, fields_of-text_of}
use Rattle.line_reader.proofs.field_laws.fields_join.Goals as goal

pub returns-clause-line : goal.returns-clause-line
returns-clause-line c = text_of-fields_of

pub returns-clause-fields : goal.returns-clause-fields
returns-clause-fields c = fields_of-text_of
