use Rattle.utc_text.proofs.TextLaws.{absolute_one_text, length_one_text}
use Rattle.utc_text.proofs.laws.one_text_of_a_time.Goals as goal

pub returns-clause-moment : goal.returns-clause-moment
returns-clause-moment c = absolute_one_text

pub returns-clause-length : goal.returns-clause-length
returns-clause-length c = length_one_text
