use Rattle.utc_text.proofs.TextLaws.{length_has_text}
use Rattle.utc_text.proofs.laws.every_length_has_a_text.Goals as goal

pub returns : goal.returns
returns c = length_has_text
