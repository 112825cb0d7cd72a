use Rattle.server_roles.proofs.Answered.{time_is_told, text_is_told}
use Rattle.server_roles.proofs.laws.answers_tell_the_reading.Goals as goal

pub returns : goal.returns
returns c = record { time = time_is_told; text = text_is_told }
