use Rattle.roster.proofs.Settled.{long_refused, no_document_refused}
use Rattle.roster.proofs.laws.whole_file_is_tested_first.Goals as goal

pub returns : goal.returns
returns c = record { long = long_refused; document = no_document_refused }
