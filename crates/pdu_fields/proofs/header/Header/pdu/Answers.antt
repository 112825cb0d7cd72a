use Rattle.pdu_fields.proofs.Parsed.{ended}
use Rattle.pdu_fields.proofs.header.Header.pdu.Goals as goal

pub returns : goal.returns
returns c = λ place. ended _ place
