use Rattle.pdu_fields.proofs.OneReading.{some_reading, one_value, one_refusal, not_both}
use Rattle.pdu_fields.proofs.laws.octets_have_one_reading.Goals as goal

pub returns : goal.returns
returns c = record { some = some_reading; value = one_value; refusal = one_refusal; excluded = not_both }
