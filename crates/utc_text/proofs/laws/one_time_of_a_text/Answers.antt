use Rattle.utc_text.proofs.TextLaws.{absolute_one_value, relative_one_value, no_text_is_both}
use Rattle.utc_text.proofs.laws.one_time_of_a_text.Goals as goal

pub returns-clause-moment : goal.returns-clause-moment
returns-clause-moment c = absolute_one_value

pub returns-clause-length : goal.returns-clause-length
returns-clause-length c = relative_one_value

pub returns-clause-apart : goal.returns-clause-apart
returns-clause-apart c = no_text_is_both
